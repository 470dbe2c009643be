use Rattle.zk_show_order.proofs.Rounds.{fewer-left}
use Rattle.zk_show_order.proofs.drawing.Drawing.draw_looks_of.Goals as goal

pub loop-self-smaller : goal.loop-self-smaller
loop-self-smaller c =
    fewer-left c.loop-self.self c.draw_next.new.self c.in_ok-draw_next.field-0 c.in_ok-draw_next.ensures.goes_on c.if-not-branch.false
