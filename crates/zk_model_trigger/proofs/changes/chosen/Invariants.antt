use Rattle.std.proofs.Common.{◌≡◌, take}
use Rattle.zk_model_trigger.specs.Arms.{chosen}
use Rattle.zk_model_trigger.proofs.changes.chosen.Given as goal

abbrev pub invariant-loop-index : goal.invariant-loop-index
invariant-loop-index l = l.found.items ≡ chosen l.occasion (take l.index l.arms)
