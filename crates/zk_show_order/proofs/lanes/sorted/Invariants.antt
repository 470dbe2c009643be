use Rattle.std.proofs.Common.{◌≡◌, ◌++◌}
use Rattle.std.specs.List.{AllZip}
use Rattle.std.specs.Vec.Iter.{into_iter_items}
use Rattle.zk_show_order.specs.Lanes.{IsSortedLane}
use Rattle.zk_show_order.proofs.lanes.sorted.Given as goal

abbrev pub invariant-loop-list : goal.invariant-loop-list
invariant-loop-list l = record {
  items : l.yielded ++ into_iter_items l.list-iterator ≡ l.fn.lists.items;
  lanes : AllZip IsSortedLane l.yielded l.lanes.items;
}
