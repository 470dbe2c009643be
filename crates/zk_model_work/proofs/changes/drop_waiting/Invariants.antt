use Rattle.std.proofs.Common.{◌≡◌, ◌++◌, map, take, drop}
use Rattle.zk_model_work.specs.Machine.{drop_one}
use Rattle.zk_model_work.proofs.changes.drop_waiting.Given as goal

abbrev pub invariant-loop-index : goal.invariant-loop-index
invariant-loop-index l = l.admissions ≡ map (drop_one l.item) (take l.index l.fn.admissions) ++ drop l.index l.fn.admissions
