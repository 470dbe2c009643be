use Rattle.std.proofs.Common.{◌≡◌, Some, map, take}
use Rattle.zk_trace.proofs.slots.Slots.all.Given as goal

abbrev pub invariant-loop-spot : goal.invariant-loop-spot
invariant-loop-spot l = map Some l.known.items ≡ take l.spot-index l.self
