use Rattle.std.proofs.Common.{◌≡◌, Some, map, take}
use Rattle.zk_trace.proofs.steps_read.all_spots.Given as goal

abbrev pub invariant-loop-one : goal.invariant-loop-one
invariant-loop-one l = map (λ spots. map Some spots) l.steps.items ≡ take l.one-index l.slots
