use Rattle.std.proofs.Common.{◌≡◌, take}
use Rattle.zk_show_order.specs.Order.{lines_at}
use Rattle.zk_show_chart.proofs.rows.lines_at.Given as goal

abbrev pub invariant-loop-place : goal.invariant-loop-place
invariant-loop-place l = l.drawn.items ≡ lines_at l.stood (take l.place-index l.order)
