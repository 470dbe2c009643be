use Rattle.std.proofs.Common.{take}
use Rattle.zk_trace.specs.Slots.{HoldAll}
use Rattle.zk_trace.proofs.steps_read.placed.Given as goal

abbrev pub invariant-loop-line : goal.invariant-loop-line
invariant-loop-line l = HoldAll (take l.line-index l.lines) l.players l.slots.items
