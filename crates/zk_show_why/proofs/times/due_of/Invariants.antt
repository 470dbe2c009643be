use Rattle.std.proofs.Common.{◌≡◌, drop}
use Rattle.zk_show_why.specs.Times.{due_from, due_of}
use Rattle.zk_show_why.proofs.times.due_of.Given as goal

-- what the entries that are left do to the time and the delay
abbrev pub invariant-loop-entry : goal.invariant-loop-entry
invariant-loop-entry l = due_from l.item (drop l.entry-index l.trace.work) l.now l.due ≡ due_of l.trace l.item
