use Rattle.std.proofs.Common.{◌≡◌, take}
use Rattle.zk_scenario.proofs.scripts.copy_each.Given as goal

abbrev pub invariant-loop-script : goal.invariant-loop-script
invariant-loop-script l = l.copied.items ≡ take l.script-index l.scripts
