use Rattle.std.proofs.Common.{◌≡◌, ◌≢◌, ◌<◌, ◌∙◌, Option, List, All, false, length, get_or, sym, ap, subst}
use Rattle.std.specs.List.{list_any}
use Rattle.std.specs.Option.{option_map_or}
use Rattle.zk_model_work.specs.declared.parts.Wait.{Wait}
use Rattle.zk_work.specs.OpenWaits.{OpenWaitsView}
use Rattle.zk_work.proofs.Placed.{passes-at, passes-nowhere}
use Rattle.zk_work.proofs.open_waits.OpenWaits.at.Goals as goal

pub returns-in_err-index : goal.returns-in_err-index
returns-in_err-index c = λ passes of.
    let ws = c.self.inside.waits.items in
    let differ = subst (All (λ (w : Wait). w.place ≢ c.args.place)) c.deref.ensures.value c.in_err-index.ensures.none in
    ap (λ (v : OpenWaitsView). list_any passes v.waits) (sym c.self.view_is)
    ∙ passes-nowhere c.args.place passes of ws differ
    ∙ sym (ap (λ (o : Option Wait). option_map_or passes o false) c.from_residual.ensures)

pub returns : goal.returns
returns c = λ passes of.
    let ws = c.self.inside.waits.items in
    let i = c.in_ok-index.index in
    let wait = c.index.result.now in
    let within = subst (λ (l : List Wait). i < length l) c.deref.ensures.value c.in_ok-index.ensures.within in
    let at = subst (λ (l : List Wait). (get_or l i wait).place ≡ c.args.place) c.deref.ensures.value (c.in_ok-index.ensures.found wait) in
    ap (λ (v : OpenWaitsView). list_any passes v.waits) (sym c.self.view_is)
    ∙ passes-at c.args.place passes of ws i wait c.self.invariant.rises within at ∙ ap passes (sym c.index.ensures)
