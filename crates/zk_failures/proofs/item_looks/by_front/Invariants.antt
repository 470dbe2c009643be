use Rattle.std.proofs.Common.{◌≡◌, ◌++◌, drop}
use Rattle.zk_failures.specs.ItemLooks.{fronts_from}
use Rattle.zk_failures.proofs.item_looks.by_front.Given as goal

abbrev pub invariant-loop-place : goal.invariant-loop-place
invariant-loop-place l = l.fronts.items ++ fronts_from l.place (drop l.place l.looks) ≡ fronts_from 0 l.looks
