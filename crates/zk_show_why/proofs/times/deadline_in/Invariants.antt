use Rattle.std.proofs.Common.{◌≡◌, None, drop}
use Rattle.zk_show_why.specs.Times.{deadline_from}
use Rattle.zk_show_why.proofs.times.deadline_in.Given as goal

-- what the steps that are left do to the deadline
abbrev pub invariant-loop-spot : goal.invariant-loop-spot
invariant-loop-spot l = deadline_from l.trace (drop l.spot-index l.steps) l.deadline ≡ deadline_from l.trace l.steps None
