use Rattle.std.proofs.Common.{◌≡◌, drop}
use Rattle.zk_show_why.specs.Left.{item_left, item_left_from}
use Rattle.zk_show_why.proofs.left.item_left.Given as goal

-- with what comes of the entries that are left
abbrev pub invariant-loop-entry : goal.invariant-loop-entry
invariant-loop-entry l =
    item_left_from l.threads l.trace l.item l.object l.at l.told.items (drop l.entry-index l.trace.work)
    ≡ item_left l.threads l.trace l.item l.object
