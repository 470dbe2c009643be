use Rattle.std.proofs.Common.{sym, ◌∙◌}
use Rattle.zk_event_script.specs.declared.limits.TheConstants.{GREATEST_BITS}
use Rattle.zk_event_script.proofs.InRange.{within}
use Rattle.zk_event_script.proofs.read.bits_in.Goals as goal

pub narrowed-requires : goal.narrowed-requires
narrowed-requires c = (within c.args.least GREATEST_BITS c.args.word.now c.in-Some.bits (sym c.number_in.ensures ∙ c.in-Some.is)).1
