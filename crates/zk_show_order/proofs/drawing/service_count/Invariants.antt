use Rattle.std.proofs.Common.{take}
use Rattle.zk_show_order.specs.Drawing.{AreAmong}
use Rattle.zk_show_order.proofs.drawing.service_count.Given as goal

abbrev pub invariant-loop-line : goal.invariant-loop-line
invariant-loop-line l = AreAmong (take l.line-index l.lines) l.count
