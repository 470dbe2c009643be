use Rattle.zk_show_order.specs.Drawing.{GoesOn}
use Rattle.zk_show_order.proofs.drawing.Drawing.draw_looks.Given as goal

abbrev pub invariant-loop-player : goal.invariant-loop-player
invariant-loop-player l = GoesOn l.fn.self l.self l.any
