use Rattle.std.proofs.Common.{◌≡◌, ◌++◌, map, take, drop}
use Rattle.zk_model_work.specs.Machine.{end_one}
use Rattle.zk_model_work.proofs.changes.end_run.Given as goal

abbrev pub invariant-loop-index : goal.invariant-loop-index
invariant-loop-index l = l.admissions ≡ map (end_one l.queue) (take l.index l.fn.admissions) ++ drop l.index l.fn.admissions
