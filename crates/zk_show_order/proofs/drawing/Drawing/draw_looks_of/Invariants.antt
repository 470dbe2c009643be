use Rattle.std.proofs.Common.{◌-◌, length}
use Rattle.zk_show_order.specs.Drawing.{GoesOn}
use Rattle.zk_show_order.proofs.drawing.Drawing.draw_looks_of.Given as goal

abbrev pub invariant-loop-self : goal.invariant-loop-self
invariant-loop-self l = GoesOn l.fn.self l.self l.any

abbrev pub decreases-loop-self : goal.decreases-loop-self
decreases-loop-self l = length l.self.lines.now - length l.self.order.items
