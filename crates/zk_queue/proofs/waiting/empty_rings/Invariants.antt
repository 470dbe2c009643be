use Rattle.std.proofs.Common.{◌≡◌, replicate, []}
use Rattle.zk_queue.proofs.waiting.empty_rings.Given as goal

abbrev pub invariant-loop-queue : goal.invariant-loop-queue
invariant-loop-queue l = l.rings.items ≡ replicate l.queue (record { entries = []; front = 0; capacity = l.capacity })
