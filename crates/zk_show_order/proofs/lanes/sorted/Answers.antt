use Rattle.std.proofs.Common.{List, [], ◌∷◌, ◌++◌, append_assoc, sym, ap, subst, ◌∙◌}
use Rattle.std.specs.List.{AllZip}
use Rattle.zk_show_order.specs.declared.lanes.Queued.{Queued}
use Rattle.zk_show_order.specs.Lanes.{IsSortedLane}
use Rattle.zk_show_order.proofs.Sorting.{zip-push}
use Rattle.zk_show_order.proofs.lanes.sorted.Goals as goal

pub loop-list-preserved : goal.loop-list-preserved
loop-list-preserved c =
    let l = c.loop-list in
    let list = c.in-Some.list in
    let lane = c.in-Some-of.lane in
    record {
      items = append_assoc l.yielded (list ∷ []) _ ∙ ap (λ rest. l.yielded ++ rest) (sym c.in-Some.ensures.steps.0) ∙ l.invariant.items;
      lanes =
          subst (AllZip IsSortedLane (l.yielded ++ list ∷ [])) (sym c.in_ok-push-in-Some-of.ensures.items)
          (zip-push IsSortedLane l.yielded l.lanes.items list lane l.invariant.lanes
          (subst (λ (q : List Queued). IsSortedLane q lane) c.into_vec.ensures c.in-Some-of.ensures));
    }
