use Rattle.std.proofs.Common.{ℕ, List, [], ◌∷◌, ◌++◌, sym, ap, ◌∙◌}
use Rattle.zk_show_order.proofs.Joining.{range-next}
use Rattle.zk_show_chart.proofs.rows.text_order.Goals as goal

pub loop-place-preserved : goal.loop-place-preserved
loop-place-preserved c =
    let place = c.loop-place.place in
    c.in_ok-push.ensures.items ∙ ap (λ (l : List ℕ). l ++ place ∷ []) c.loop-place.invariant ∙ sym (range-next place)
