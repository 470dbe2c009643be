use Rattle.std.proofs.Common.{drop, sym, ap, ◌∙◌}
use Rattle.std.proofs.lemmas.List.{drop-drop, drop-map}
use Rattle.zk_show_order.specs.declared.lanes.Queued.{Queued}
use Rattle.zk_show_order.specs.Lanes.{places_of}
use Rattle.zk_show_order.proofs.lanes.Lane.pass.Goals as goal

pub returns : goal.returns
returns c =
    let queued = c.self.inside.queued.items in
    let passed = c.self.inside.passed in
    ap places_of (sym (drop-drop 1 passed queued)) ∙ sym (drop-map (λ (q : Queued). q.place) 1 (drop passed queued))
    ∙ ap (drop 1) c.self.view_is
