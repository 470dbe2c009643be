use Rattle.zk_show_order.proofs.Sorting.{made-lanes}
use Rattle.zk_show_order.proofs.lanes.lanes_of.Goals as goal

pub returns : goal.returns
returns c =
    made-lanes (λ v. v.items) c.args.lines.now c.in_ok-lists.lists.items c.in_ok-lists.ensures c.sorted.result c.sorted.ensures
