use Rattle.std.proofs.Common.{◌≡◌, ◌≢◌, ◌<◌, ◌∙◌, List, All, not, set, get_or, length, filter, sym, ap, subst, arith, rules}
use Rattle.std.proofs.lemmas.Fn.{filter_same}
use Rattle.std.proofs.lemmas.List.{length-set}
use Rattle.std.proofs.lemmas.List.Elements.{All-filter}
use Rattle.std.proofs.lemmas.List.Kept.{AllPairs-filter}
use Rattle.zk_model_work.specs.declared.parts.Wait.{Wait}
use Rattle.zk_work.specs.EngineState.{unanswered}
use Rattle.zk_work.specs.OpenWaits.{OpenWaitsView, Rises}
use Rattle.zk_work.proofs.Placed.{over, elsewhere, left-none, left-answered, left-over, rises-over, below-over, one_less, open_again}
use Rattle.zk_work.proofs.open_waits.OpenWaits.take_out.Goals as goal

pub returns-in_default-clause-waits : goal.returns-in_default-clause-waits
returns-in_default-clause-waits c =
    let ws = c.self.inside.waits.items in
    let differ = subst (All (λ (w : Wait). w.place ≢ c.args.place)) c.deref.ensures.value c.in_default.ensures.none in
    subst (λ (vs : List Wait). vs ≡ filter (elsewhere c.args.place) vs) (ap (λ (v : OpenWaitsView). v.waits) c.self.view_is)
    (left-none c.args.place ws differ)

pub returns-then-wait-clause-waits : goal.returns-then-wait-clause-waits
returns-then-wait-clause-waits c =
    let ws = c.self.inside.waits.items in
    let i = c.in-Some.index in
    let wait = c.index-wait.result.now in
    let within = subst (λ (l : List Wait). i < length l) c.deref.ensures.value c.in-Some.ensures.within in
    let at = subst (λ (l : List Wait). (get_or l i wait).place ≡ c.args.place) c.deref.ensures.value (c.in-Some.ensures.found wait) in
    subst (λ (vs : List Wait). vs ≡ filter (elsewhere c.args.place) vs) (ap (λ (v : OpenWaitsView). v.waits) c.self.view_is)
    (left-answered c.args.place ws i wait c.self.invariant.rises within at
    (ap (λ (w : Wait). w.answered) (sym c.index-wait.ensures) ∙ c.if-wait.true))

pub invariant_of-self : goal.invariant_of-self
invariant_of-self c =
    let ws = c.self.inside.waits.items in
    let i = c.in-Some.index in
    let wait = c.index-wait.result.now in
    let after = set ws i (over wait) in
    let same : after ≡ set ws i (over (get_or ws i wait)) = ap (λ (w : Wait). set ws i (over w)) c.index-wait.ensures in
    let is : c.retain.new.self.items ≡ unanswered after =
    filter_same _ _ _ (λ x b f' k. search rules) _ _ c.retain.ensures.filtered in
    let again = ap (λ (l : List Wait). length (unanswered l)) is ∙ ap length (open_again after) ∙ sym (ap length is) in
    record {
      rises = subst Rises (sym is) (AllPairs-filter (λ (v w : Wait). v.place < w.place) (λ (w : Wait). not w.answered) after
          (subst Rises (sym same) (rises-over ws i wait c.self.invariant.rises)));
      below = subst (All (λ (w : Wait). w.place < c.self.inside.next)) (sym is)
          (All-filter (λ (w : Wait). not w.answered) (λ (w : Wait). w.place < c.self.inside.next) after
          (subst (All (λ (w : Wait). w.place < c.self.inside.next)) (sym same)
          (below-over c.self.inside.next ws i wait c.self.invariant.below)));
      counted = omega arith;
    }

pub invariant_of-self-else-len-self : goal.invariant_of-self-else-len-self
invariant_of-self-else-len-self c =
    let ws = c.self.inside.waits.items in
    let i = c.in-Some.index in
    let wait = c.index-wait.result.now in
    let within = subst (λ (l : List Wait). i < length l) c.deref.ensures.value c.in-Some.ensures.within in
    let at = subst (λ (l : List Wait). (get_or l i wait).place ≡ c.args.place) c.deref.ensures.value (c.in-Some.ensures.found wait) in
    let after = set ws i (over wait) in
    let same : after ≡ set ws i (over (get_or ws i wait)) = ap (λ (w : Wait). set ws i (over w)) c.index-wait.ensures in
    let less = one_less ws i wait within
    (ap (λ (w : Wait). w.answered) (sym c.index-wait.ensures) ∙ c.if-wait.false) in
    let open_after = ap (λ (l : List Wait). length (unanswered l)) same in
    let long = length-set ws i (over wait) in
    let counted = c.self.invariant.counted in
    record {
      rises = subst Rises (sym same) (rises-over ws i wait c.self.invariant.rises);
      below = subst (All (λ (w : Wait). w.place < c.self.inside.next)) (sym same)
          (below-over c.self.inside.next ws i wait c.self.invariant.below);
      counted = omega arith;
    }

pub returns-then-len-self-clause-waits : goal.returns-then-len-self-clause-waits
returns-then-len-self-clause-waits c =
    let ws = c.self.inside.waits.items in
    let i = c.in-Some.index in
    let wait = c.index-wait.result.now in
    let within = subst (λ (l : List Wait). i < length l) c.deref.ensures.value c.in-Some.ensures.within in
    let at = subst (λ (l : List Wait). (get_or l i wait).place ≡ c.args.place) c.deref.ensures.value (c.in-Some.ensures.found wait) in
    let view = ap (λ (v : OpenWaitsView). v.waits) c.self.view_is in
    let after = set ws i (over wait) in
    let same : after ≡ set ws i (over (get_or ws i wait)) = ap (λ (w : Wait). set ws i (over w)) c.index-wait.ensures in
    let is : c.retain.new.self.items ≡ unanswered after =
    filter_same _ _ _ (λ x b f' k. search rules) _ _ c.retain.ensures.filtered in
    ap unanswered is ∙ open_again after ∙ ap unanswered same
    ∙ left-over c.args.place ws i wait c.self.invariant.rises within at ∙ ap (filter (elsewhere c.args.place)) view

pub returns-else-len-self-clause-waits : goal.returns-else-len-self-clause-waits
returns-else-len-self-clause-waits c =
    let ws = c.self.inside.waits.items in
    let i = c.in-Some.index in
    let wait = c.index-wait.result.now in
    let within = subst (λ (l : List Wait). i < length l) c.deref.ensures.value c.in-Some.ensures.within in
    let at = subst (λ (l : List Wait). (get_or l i wait).place ≡ c.args.place) c.deref.ensures.value (c.in-Some.ensures.found wait) in
    let view = ap (λ (v : OpenWaitsView). v.waits) c.self.view_is in
    let after = set ws i (over wait) in
    let same : after ≡ set ws i (over (get_or ws i wait)) = ap (λ (w : Wait). set ws i (over w)) c.index-wait.ensures in
    ap unanswered same ∙ left-over c.args.place ws i wait c.self.invariant.rises within at
    ∙ ap (filter (elsewhere c.args.place)) view
