use Rattle.std.proofs.Common.{◌≡◌, take}
use Rattle.zk_model_work.specs.State.{fresh_queues}
use Rattle.zk_model_work.proofs.growth.fresh_queues.Given as goal

abbrev pub invariant-loop-number : goal.invariant-loop-number
invariant-loop-number l = l.queues.items ≡ fresh_queues (take l.number l.workers) (take l.number l.started)
