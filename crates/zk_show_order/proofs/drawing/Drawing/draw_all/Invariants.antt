use Rattle.std.proofs.Common.{◌≡◌, ◌-◌, length}
use Rattle.zk_show_order.specs.Drawing.{IsDrawing}
use Rattle.zk_show_order.proofs.drawing.Drawing.draw_all.Given as goal

abbrev pub invariant-loop : goal.invariant-loop
invariant-loop l = record {
  standing : IsDrawing l.self;
  lines : l.self.lines.now ≡ l.fn.self.lines.now;
}

abbrev pub decreases-loop : goal.decreases-loop
decreases-loop l = length l.self.lines.now - length l.self.order.items
