use Rattle.std.proofs.Common.{arith}
use Rattle.zk_player_set.proofs.BitWords.{without-bits}
use Rattle.zk_player_set.proofs.bits.without_bits.Goals as goal

pub returns : goal.returns
returns c = λ bit below. without-bits c.args.word c.args.other bit (omega arith) below
