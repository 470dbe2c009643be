use Rattle.zk_show_order.proofs.Rounds.{fewer-left}
use Rattle.zk_show_order.proofs.drawing.Drawing.draw_all.Goals as goal

pub loop-smaller : goal.loop-smaller
loop-smaller c =
    fewer-left c.loop.self c.draw_round.new.self c.in_ok-draw_round.field-0 c.in_ok-draw_round.ensures.goes_on c.if-not-branch.false
