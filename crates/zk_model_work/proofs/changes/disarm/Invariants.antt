use Rattle.std.proofs.Common.{◌≡◌, ◌++◌, map, take, drop}
use Rattle.zk_model_work.specs.Machine.{disarm_one}
use Rattle.zk_model_work.proofs.changes.disarm.Given as goal

abbrev pub invariant-loop-index : goal.invariant-loop-index
invariant-loop-index l = l.arms ≡ map (disarm_one l.item) (take l.index l.fn.arms) ++ drop l.index l.fn.arms
