use Rattle.std.proofs.Common.{◌≡◌, ◌≢◌, ◌<◌, ◌+◌, ℕ, Option, Some, None, List, All, set, get_or, drop, length, sym, ap, subst, ◌∙◌}
use Rattle.std.proofs.lemmas.List.{get_or_default, take_rest}
use Rattle.zk_base.specs.declared.slots.Slot.{Slot}
use Rattle.zk_base.specs.declared.leaders.First.{First}
use Rattle.zk_base.specs.Slots.{place_of, leads, passed_on}
use Rattle.zk_base.proofs.SlotsKept.{passed-none, passed-other, passed-set, passed-remove}
use Rattle.zk_base.proofs.slots.pass_on.Goals as goal

pub returns-in_default-clause-items : goal.returns-in_default-clause-items
returns-in_default-clause-items g c = λ d.
    let s = get_or c.args.slots.now c.args.index d in
    let at : c.index-slots-index.result ≡ s = c.index-slots-index.is ∙ get_or_default c.args.slots.now c.args.index _ d
    c.requires.within in
    let differ = subst (λ n. All (λ (f : First). f.rank ≢ n) c.args.firsts.now.items)
    (ap (λ (s : Slot g.row.M.Denot g.row.A.Denot). s.rank) at)
    (subst (All (λ (f : First). f.rank ≢ c.index-slots-index.result.rank)) c.deref.ensures.value c.in_default.ensures.none) in
    sym (passed-none s.rank (place_of s) (leads s.rank (drop (c.args.index + 1) c.args.slots.now)) c.args.firsts.now.items differ)

pub returns-then-index-slot-clause-items : goal.returns-then-index-slot-clause-items
returns-then-index-slot-clause-items g c = λ d.
    let s = get_or c.args.slots.now c.args.index d in
    let fs = c.args.firsts.now.items in
    let at : c.index-slots-index.result ≡ s = c.index-slots-index.is ∙ get_or_default c.args.slots.now c.args.index _ d
    c.requires.within in
    let f = c.index.result.now in
    let within = subst (λ (l : List First). c.in-Some.at < length l) c.deref.ensures.value c.in-Some.ensures.within in
    let of_rank = subst (λ (l : List First). (get_or l c.in-Some.at f).rank ≡ c.index-slots-index.result.rank)
    c.deref.ensures.value
    (c.in-Some.ensures.found f) ∙ ap (λ (s : Slot g.row.M.Denot g.row.A.Denot). s.rank) at in
    sym (passed-other s.rank (place_of s) c.in-Some.at (leads s.rank (drop
    (c.args.index + 1) c.args.slots.now)) fs f c.requires.ordered within of_rank
    (λ same. c.if-index-slot.true (ap (λ (f : First). f.place) c.index.ensures ∙ same ∙
    ap (λ (s : Slot g.row.M.Denot g.row.A.Denot). place_of s) (sym at))))

pub returns-in-Some-leads-clause-items : goal.returns-in-Some-leads-clause-items
returns-in-Some-leads-clause-items g c = λ d.
    let s = get_or c.args.slots.now c.args.index d in
    let fs = c.args.firsts.now.items in
    let at : c.index-slots-index.result ≡ s = c.index-slots-index.is ∙ get_or_default c.args.slots.now c.args.index _ d
    c.requires.within in
    let f = c.index.result.now in
    let within = subst (λ (l : List First). c.in-Some.at < length l) c.deref.ensures.value c.in-Some.ensures.within in
    let of_rank = subst (λ (l : List First). (get_or l c.in-Some.at f).rank ≡ c.index-slots-index.result.rank)
    c.deref.ensures.value
    (c.in-Some.ensures.found f) ∙ ap (λ (s : Slot g.row.M.Denot g.row.A.Denot). s.rank) at in
    let of_place = ap (λ (f : First). f.place) (sym c.index.ensures) ∙ c.if-index-slot.false
    ∙ ap (λ (s : Slot g.row.M.Denot g.row.A.Denot). place_of s) at in
    let next : leads s.rank (drop (c.args.index + 1) c.args.slots.now) ≡ Some c.in-Some-leads.place =
    ap (λ (s : Slot g.row.M.Denot g.row.A.Denot). leads s.rank (drop (c.args.index + 1) c.args.slots.now)) (sym at)
    ∙ sym (ap (leads c.index-slots-index.result.rank) (take_rest c.args.slots.now
    (c.args.index + 1))) ∙ sym c.leads.ensures ∙ c.in-Some-leads.is in
    ap (λ n. set fs c.in-Some.at (record { rank = n; place = c.in-Some-leads.place }))
    (ap (λ (s : Slot g.row.M.Denot g.row.A.Denot). s.rank) at)
    ∙ passed-set s.rank (place_of s) c.in-Some.at c.in-Some-leads.place fs f c.requires.ordered within of_rank of_place
    ∙ ap (λ (o : Option ℕ). passed_on s.rank (place_of s) o fs) (sym next)

pub returns-in-None-clause-items : goal.returns-in-None-clause-items
returns-in-None-clause-items g c = λ d.
    let s = get_or c.args.slots.now c.args.index d in
    let fs = c.args.firsts.now.items in
    let at : c.index-slots-index.result ≡ s = c.index-slots-index.is ∙ get_or_default c.args.slots.now c.args.index _ d
    c.requires.within in
    let f = c.index.result.now in
    let within = subst (λ (l : List First). c.in-Some.at < length l) c.deref.ensures.value c.in-Some.ensures.within in
    let of_rank = subst (λ (l : List First). (get_or l c.in-Some.at f).rank ≡ c.index-slots-index.result.rank)
    c.deref.ensures.value
    (c.in-Some.ensures.found f) ∙ ap (λ (s : Slot g.row.M.Denot g.row.A.Denot). s.rank) at in
    let of_place = ap (λ (f : First). f.place) (sym c.index.ensures) ∙ c.if-index-slot.false
    ∙ ap (λ (s : Slot g.row.M.Denot g.row.A.Denot). place_of s) at in
    let next : leads s.rank (drop (c.args.index + 1) c.args.slots.now) ≡ None =
    ap (λ (s : Slot g.row.M.Denot g.row.A.Denot). leads s.rank (drop (c.args.index + 1) c.args.slots.now)) (sym at)
    ∙ sym (ap (leads c.index-slots-index.result.rank) (take_rest c.args.slots.now
    (c.args.index + 1))) ∙ sym c.leads.ensures ∙ c.in-None.is in
    c.remove.ensures.items
    ∙ passed-remove s.rank (place_of s) c.in-Some.at fs f c.requires.ordered within of_rank of_place
    ∙ ap (λ (o : Option ℕ). passed_on s.rank (place_of s) o fs) (sym next)
