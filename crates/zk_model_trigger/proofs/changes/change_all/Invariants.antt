use Rattle.std.proofs.Common.{◌≡◌, ◌++◌, map, take, drop}
use Rattle.zk_model_trigger.specs.Arms.{change_one}
use Rattle.zk_model_trigger.proofs.changes.change_all.Given as goal

abbrev pub invariant-loop-index : goal.invariant-loop-index
invariant-loop-index l = l.arms ≡ map (change_one l.change) (take l.index l.fn.arms) ++ drop l.index l.fn.arms
