use Rattle.std.proofs.Common.{◌≡◌, ◌++◌, take, drop}
use Rattle.zk_model_work.specs.Machine.{settle_from}
use Rattle.zk_queue.specs.Open.{is_idle}
use Rattle.zk_work.proofs.active.settle.Given as goal

abbrev pub invariant-loop-number : goal.invariant-loop-number
invariant-loop-number l = l.queues ≡ take l.number (settle_from (is_idle l.fn.active.admissions) 0 l.fn.queues) ++ drop l.number l.fn.queues
