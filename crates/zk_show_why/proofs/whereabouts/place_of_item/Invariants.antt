use Rattle.std.proofs.Common.{◌≡◌, drop}
use Rattle.zk_show_why.specs.Whereabouts.{after_all, nowhere}
use Rattle.zk_show_why.proofs.whereabouts.place_of_item.Given as goal

-- what the entries that are left do to the item
abbrev pub invariant-loop-entry : goal.invariant-loop-entry
invariant-loop-entry l = after_all l.item l.at (drop l.entry-index l.trace.work) ≡ after_all l.item nowhere l.trace.work
