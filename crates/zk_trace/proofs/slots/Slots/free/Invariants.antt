use Rattle.std.proofs.Common.{◌≡◌, None, replicate}
use Rattle.zk_trace.proofs.slots.Slots.free.Given as goal

abbrev pub invariant-loop-slot : goal.invariant-loop-slot
invariant-loop-slot l = l.spots.items ≡ replicate l._slot None
