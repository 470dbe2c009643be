use Rattle.std.proofs.Common.{◌≡◌, ◌++◌, take, drop}
use Rattle.zk_model_work.specs.Machine.{settle}
use Rattle.zk_model_work.proofs.changes.settle.Given as goal

abbrev pub invariant-loop-number : goal.invariant-loop-number
invariant-loop-number l = l.queues ≡ take l.number (settle l.admissions l.fn.queues) ++ drop l.number l.fn.queues
