use Rattle.std.proofs.Common.{◌≡◌, ◌++◌, map, take, drop}
use Rattle.zk_model_work.specs.Machine.{answer_one}
use Rattle.zk_model_work.proofs.changes.answer.Given as goal

abbrev pub invariant-loop-index : goal.invariant-loop-index
invariant-loop-index l = l.waits ≡ map (answer_one l.admissions l.queues l.closing l.who l.place)
    (take l.index l.fn.waits) ++ drop l.index l.fn.waits
