use Rattle.std.proofs.Common.{◌∙◌}
use Rattle.zk_trace.specs.Words.{flag_letters}
use Rattle.zk_trace.proofs.Letters.{all-front, no-front}
use Rattle.zk_trace.proofs.flags.are_letters.Goals as goal

pub returns-in-Some : goal.returns-in-Some
returns-in-Some c = c.is_empty.ensures ∙ all-front (flag_letters c.args.flags) c.args.word.now c.in-Some.rest.now c.in-Some.ensures

pub returns-in-None : goal.returns-in-None
returns-in-None c = no-front (flag_letters c.args.flags) c.args.word.now c.in-None.ensures
