use Rattle.std.proofs.Common.{List, subst, ◌∙◌}
use Rattle.std.specs.Option.{MatchOption}
use Rattle.zk_trace.specs.declared.stood.Stood.{Stood}
use Rattle.zk_show_order.specs.Order.{IsOrder, HasNoOrder}
use Rattle.zk_show_order.proofs.order.order_of.Goals as goal

pub returns : goal.returns
returns c =
    subst (λ (l : List Stood). MatchOption c.order.result (HasNoOrder l) (λ order. IsOrder l order.items))
    (c.in_ok-draw_all.ensures.lines ∙ c.in_ok-drawing.ensures.lines) c.order.ensures
