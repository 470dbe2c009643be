use Rattle.std.proofs.Common.{◌+◌, ◌/◌, ◌^◌, ◌<◌, true, subst, sym, arith}
use Rattle.std.proofs.lemmas.Nat.{shr_le}
use Rattle.zk_player_set.specs.Players.{word_bits}
use Rattle.zk_player_set.proofs.BitWords.{AreBits, all-ones, some-ones}
use Rattle.zk_player_set.proofs.bits.ones_from.Goals as goal

pub returns-then-rest-clause-within : goal.returns-then-rest-clause-within
returns-then-rest-clause-within c = (all-ones c.args.word c.args.bit (omega arith) c.requires c.if-rest.true).within

pub returns-then-rest-clause-ones : goal.returns-then-rest-clause-ones
returns-then-rest-clause-ones c = (all-ones c.args.word c.args.bit (omega arith) c.requires c.if-rest.true).all

ends : (c : goal.After-trailing_ones) → AreBits true c.args.word c.args.bit c.trailing_ones.result
ends c =
    let most : c.args.word / 2 ^ c.args.bit + 1 < 2 ^ word_bits = omega (arith, shr_le c.args.word c.args.bit, c.if-rest.false) in
    subst (AreBits true c.args.word c.args.bit) (sym c.trailing_ones.ensures) (some-ones c.args.word c.args.bit (omega arith) c.requires most)

pub returns-clause-within : goal.returns-clause-within
returns-clause-within c = (ends c).within

pub returns-clause-ones : goal.returns-clause-ones
returns-clause-ones c = (ends c).all

pub returns-clause-end : goal.returns-clause-end
returns-clause-end c = (ends c).end
