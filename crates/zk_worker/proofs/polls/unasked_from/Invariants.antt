use Rattle.std.proofs.Common.{◌≡◌, ◌-◌, drop, length}
use Rattle.zk_worker.specs.Polls.{unasked_from}
use Rattle.zk_worker.proofs.polls.unasked_from.Given as goal

abbrev pub invariant-loop-n : goal.invariant-loop-n
invariant-loop-n l =
    unasked_from l.n (drop l.n l.events) (drop l.n l.marks) ≡ unasked_from l.fn.n (drop l.fn.n l.fn.events) (drop l.fn.n l.fn.marks)

abbrev pub decreases-loop-n : goal.decreases-loop-n
decreases-loop-n l = length l.events - l.n
