use Rattle.std.proofs.Common.{◌≡◌, ◌++◌, drop}
use Rattle.zk_show_why.specs.Left.{items_left}
use Rattle.zk_show_why.proofs.left.items_left.Given as goal

-- with those of the items that are left
abbrev pub invariant-loop-item : goal.invariant-loop-item
invariant-loop-item l =
    l.told.items ++ items_left l.threads l.trace l.item (drop l.item l.objects) ≡ items_left l.threads l.trace 0 l.objects
