use Rattle.std.proofs.Common.{◌≡◌, None, map, replicate, take}
use Rattle.zk_trace.proofs.steps_read.free_slots.Given as goal

abbrev pub invariant-loop-count : goal.invariant-loop-count
invariant-loop-count l = l.slots.items ≡ map (λ count. replicate count None) (take l.count-index l.counts)
