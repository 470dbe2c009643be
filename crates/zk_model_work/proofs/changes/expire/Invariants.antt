use Rattle.std.proofs.Common.{◌≡◌, ◌++◌, map, take, drop}
use Rattle.zk_model_work.specs.Machine.{expire_one}
use Rattle.zk_model_work.proofs.changes.expire.Given as goal

abbrev pub invariant-loop-index : goal.invariant-loop-index
invariant-loop-index l = l.arms ≡ map (expire_one l.time) (take l.index l.fn.arms) ++ drop l.index l.fn.arms
