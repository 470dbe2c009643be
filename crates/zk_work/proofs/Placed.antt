-- Waits whose places rise: what is asked of the wait of a place, and what is left without it.
use Rattle.std.proofs.Common.{◌≡◌, ◌≢◌, ℕ, zero, suc, ◌+◌, ◌<◌, ◌≤◌, ◌⊎◌, inl, inr, Bool, true, false, not, ◌&&◌, ◌||◌, cond, eqb, ltb, Option, Some, None, List, [], ◌∷◌, ◌++◌, length, set, get_or, filter, All, refl, sym, ap, subst, ◌∙◌, arith}
use Rattle.std.specs.List.{list_any}
use Rattle.std.specs.List.Sorted.{IsPartitionedBy, IsPartitionPoint}
use Rattle.std.proofs.lemmas.Bool.{cases_eq, cases_order, eqb-true, not-true, eq-eqb, ne_eqb, ltb-true, ltb-false, lt-ltb, false_from_ne_true, not_from_false}
use Rattle.std.proofs.lemmas.List.{length-set, append-nil, set-get_or}
use Rattle.std.proofs.lemmas.List.Elements.{All-filter, filter-append, filter_passes}
use Rattle.std.proofs.lemmas.List.Folds.{list_any_none}
use Rattle.std.proofs.lemmas.List.Quantifiers.{all_pairs_push}
use Rattle.std.proofs.lemmas.Map.Views.{any-filter_same}
use Rattle.zk_base.proofs.Order.{filter_all}
use Rattle.std.specs.Cmp.{first_so}
use Rattle.zk_base.specs.declared.ids.Who.{Who}
use Rattle.zk_model_work.specs.declared.parts.Awaited.{Awaited}
use Rattle.zk_model_work.specs.declared.parts.Wait.{Wait}
use Rattle.zk_model_work.specs.Answers.{is_unanswered, closes}
use Rattle.zk_model_work.specs.Machine.{awaiting}
use Rattle.zk_work.specs.EngineState.{unanswered}
use Rattle.zk_work.specs.OpenWaits.{Rises, IsNewAt, is_at, IsOfPlace}

-- the same wait, answered
abbrev pub over : Wait → Wait
over w = record w { answered = true }

-- it isn't the wait of this place
abbrev pub elsewhere : ℕ → Wait → Bool
elsewhere place w = not (is_at place w)

rest : (w : Wait) (ws : List Wait) → Rises (w ∷ ws) → Rises ws
rest w ws rises = λ i j d less within. rises (suc i) (suc j) d (omega arith) (omega arith)

above : (w : Wait) (ws : List Wait) → Rises (w ∷ ws) → All (λ (v : Wait). w.place < v.place) ws
above w ws rises = λ k d within. rises 0 (suc k) d (omega arith) (omega arith)

-- what is behind a place is elsewhere
others : (place : ℕ) (ws : List Wait) → All (λ (v : Wait). v.place ≢ place) ws → All (λ (v : Wait). elsewhere place v ≡ true) ws
others place ws differ = λ k d within.
    not_from_false (is_at place (get_or ws k d)) (ne_eqb (get_or ws k d).place place (differ k d within))

behind : (w : Wait) (ws : List Wait) (place : ℕ) → Rises (w ∷ ws) → w.place ≡ place → All (λ (v : Wait). v.place ≢ place) ws
behind w ws place rises same = λ k d within is. let less = above w ws rises k d within in absurd (omega arith)

-- a wait in front of one of a place is of another
front : (w : Wait) (ws : List Wait) (i : ℕ) (d : Wait) (place : ℕ) → Rises (w ∷ ws) → i < length ws →
    (get_or ws i d).place ≡ place → w.place ≢ place
front w ws i d place rises within at = λ same. let less = above w ws rises i d within in absurd (omega arith)

-- What passes waits of one place alone.
module _ (place : ℕ) (passes : Wait → Bool) (of : IsOfPlace place passes) where
  fails : (w : Wait) → w.place ≢ place → passes w ≡ false
  fails w differ = false_from_ne_true (passes w) (λ is. differ (of w is).0)

  none_passes : (ws : List Wait) → All (λ (w : Wait). w.place ≢ place) ws → list_any passes ws ≡ false
  none_passes ws differ = list_any_none passes ws (λ k d within. fails (get_or ws k d) (differ k d within))

  one_passes : (ws : List Wait) (i : ℕ) (d : Wait) → Rises ws → i < length ws → (get_or ws i d).place ≡ place →
      list_any passes ws ≡ passes (get_or ws i d)
  one_passes [] i d rises within at = absurd (omega arith)
  one_passes (w ∷ ws) zero d rises within at =
      ap (λ b. passes w || b) (none_passes ws (behind w ws place rises at)) ∙ alone (passes w) where
        alone : (b : Bool) → (b || false) ≡ b
        alone true = refl
        alone false = refl
  one_passes (w ∷ ws) (suc i) d rises within at =
      ap (λ b. b || list_any passes ws) (fails w (front w ws i d place rises (omega arith) at))
      ∙ one_passes ws i d (rest w ws rises) (omega arith) at

  -- no answered wait passes
  open_passes : (ws : List Wait) → list_any passes (unanswered ws) ≡ list_any passes ws
  open_passes ws = any-filter_same passes (λ (w : Wait). not w.answered) true (λ w is. ap not (of w is).1) ws

  pub passes-at : (ws : List Wait) (i : ℕ) (d : Wait) → Rises ws → i < length ws → (get_or ws i d).place ≡ place →
      list_any passes (unanswered ws) ≡ passes (get_or ws i d)
  passes-at ws i d rises within at = open_passes ws ∙ one_passes ws i d rises within at

  pub passes-nowhere : (ws : List Wait) → All (λ (w : Wait). w.place ≢ place) ws → list_any passes (unanswered ws) ≡ false
  passes-nowhere ws differ = open_passes ws ∙ none_passes ws differ

  -- where one passes, it alone is of its place
  pub left-one : (ws : List Wait) → Rises ws → list_any passes ws ≡ true →
      filter (elsewhere place) ws ≡ filter (λ (w : Wait). not (passes w)) ws
  left-one [] rises some = absurd (cc)
  left-one (w ∷ ws) rises some = by (cases_eq w.place place) (left-one ws (rest w ws rises)) where
    stays : Wait → Bool
    stays v = not (passes v)

    by : (w.place ≡ place) ⊎ (w.place ≡ place → ⊥) →
        (list_any passes ws ≡ true → filter (elsewhere place) ws ≡ filter stays ws) →
        cond (elsewhere place w) (w ∷ filter (elsewhere place) ws) (filter (elsewhere place) ws)
        ≡ cond (stays w) (w ∷ filter stays ws) (filter stays ws)
    by (inl same) further =
        let differ = behind w ws place rises same in
        let none = none_passes ws differ in
        ap (λ b. cond (not b) (w ∷ filter (elsewhere place) ws) (filter (elsewhere place) ws)) (eq-eqb w.place place same)
        ∙ filter_all (elsewhere place) ws (others place ws differ)
        ∙ sym (filter_all stays ws (λ k d within. not_from_false (passes (get_or ws k d)) (fails (get_or ws k d) (differ k d within))))
        ∙ ap (λ b. cond (not b) (w ∷ filter stays ws) (filter stays ws)) (sym (only (passes w) (list_any passes ws) none some)) where
          only : (b c : Bool) → c ≡ false → (b || c) ≡ true → b ≡ true
          only true c none some = refl
          only false c none some = absurd (cc)
    by (inr differ) further =
        let fail = fails w differ in
        ap (λ b. cond (not b) (w ∷ filter (elsewhere place) ws) (filter (elsewhere place) ws)) (ne_eqb w.place place differ)
        ∙ ap (λ (vs : List Wait). w ∷ vs) (further (sym (ap (λ b. b || list_any passes ws) fail) ∙ some))
        ∙ ap (λ b. cond (not b) (w ∷ filter stays ws) (filter stays ws)) (sym fail)

  -- where none passes, all stay
  pub left-all : (ws : List Wait) → list_any passes ws ≡ false → ws ≡ filter (λ (w : Wait). not (passes w)) ws
  left-all [] none = refl
  left-all (w ∷ ws) none = by (passes w) none (left-all ws) where
    by : (b : Bool) → (b || list_any passes ws) ≡ false →
        (list_any passes ws ≡ false → ws ≡ filter (λ (w : Wait). not (passes w)) ws) →
        w ∷ ws ≡ cond (not b) (w ∷ filter (λ (w : Wait). not (passes w)) ws) (filter (λ (w : Wait). not (passes w)) ws)
    by true none further = absurd (cc)
    by false none further = ap (λ (vs : List Wait). w ∷ vs) (further none)

-- what ends a wait passes that of its player and place alone
pub of-closes : (has_come : Awaited → Bool) (who : Who) (place : ℕ) → IsOfPlace place (closes has_come who place)
of-closes has_come who place w is =
    let parts = three (eqb w.place place) (eqb w.player who.number) (not w.answered)
    (first_so (is_unanswered place who.number w) (has_come w.awaited) is) in
    (eqb-true w.place place parts.0, not-true w.answered parts.1) where
      three : (a b c : Bool) → (a && b && c) ≡ true → (a ≡ true) × (c ≡ true)
      three true true true is = (refl, refl)
      three true true false is = absurd (cc)
      three true false c is = absurd (cc)
      three false b c is = absurd (cc)

-- The wait at an index is answered.
place_same : (ws : List Wait) (i a : ℕ) (d e : Wait) → (get_or (set ws i (over (get_or ws i d))) a e).place ≡ (get_or ws a e).place
place_same [] i a d e = refl
place_same (w ∷ ws) zero zero d e = refl
place_same (w ∷ ws) zero (suc a) d e = refl
place_same (w ∷ ws) (suc i) zero d e = refl
place_same (w ∷ ws) (suc i) (suc a) d e = place_same ws i a d e

pub rises-over : (ws : List Wait) (i : ℕ) (d : Wait) → Rises ws → Rises (set ws i (over (get_or ws i d)))
rises-over ws i d rises = λ a b e less within.
    let first = place_same ws i a d e in
    let second = place_same ws i b d e in
    let long = length-set ws i (over (get_or ws i d)) in
    let before = rises a b e less (omega arith) in
    omega arith

pub below-over : (next : ℕ) (ws : List Wait) (i : ℕ) (d : Wait) → All (λ (w : Wait). w.place < next) ws →
    All (λ (w : Wait). w.place < next) (set ws i (over (get_or ws i d)))
below-over next ws i d below = λ k e within.
    let same = place_same ws i k d e in
    let long = length-set ws i (over (get_or ws i d)) in
    let before = below k e (omega arith) in
    omega arith

pub left-over : (place : ℕ) (ws : List Wait) (i : ℕ) (d : Wait) → Rises ws → i < length ws → (get_or ws i d).place ≡ place →
    unanswered (set ws i (over (get_or ws i d))) ≡ filter (elsewhere place) (unanswered ws)
left-over place [] i d rises within at = absurd (omega arith)
left-over place (w ∷ ws) zero d rises within at = by (not w.answered) where
  kept : unanswered ws ≡ filter (elsewhere place) (unanswered ws)
  kept = sym (filter_all (elsewhere place) (unanswered ws)
      (All-filter (λ (w : Wait). not w.answered) (λ (v : Wait). elsewhere place v ≡ true) ws (others place ws (behind w ws place rises at))))

  by : (b : Bool) → unanswered ws ≡ filter (elsewhere place) (cond b (w ∷ unanswered ws) (unanswered ws))
  by true = kept ∙ ap (λ b. cond (not b) (w ∷ filter (elsewhere place) (unanswered ws)) (filter (elsewhere place) (unanswered ws)))
      (sym (eq-eqb w.place place at))
  by false = kept
left-over place (w ∷ ws) (suc i) d rises within at =
    by (not w.answered) (left-over place ws i d (rest w ws rises) (omega arith) at) where
      after : List Wait
      after = unanswered (set ws i (over (get_or ws i d)))

      by : (b : Bool) → after ≡ filter (elsewhere place) (unanswered ws) →
          cond b (w ∷ after) after ≡ filter (elsewhere place) (cond b (w ∷ unanswered ws) (unanswered ws))
      by true same = ap (λ (vs : List Wait). w ∷ vs) same
          ∙ ap (λ b. cond (not b) (w ∷ filter (elsewhere place) (unanswered ws)) (filter (elsewhere place) (unanswered ws)))
          (sym (ne_eqb w.place place (front w ws i d place rises (omega arith) at)))
      by false same = same

-- where none is of the place, or it is answered already, all stay
pub left-none : (place : ℕ) (ws : List Wait) → All (λ (w : Wait). w.place ≢ place) ws →
    unanswered ws ≡ filter (elsewhere place) (unanswered ws)
left-none place ws differ = sym (filter_all (elsewhere place) (unanswered ws)
    (All-filter (λ (w : Wait). not w.answered) (λ (v : Wait). elsewhere place v ≡ true) ws (others place ws differ)))

pub left-answered : (place : ℕ) (ws : List Wait) (i : ℕ) (d : Wait) → Rises ws → i < length ws →
    (get_or ws i d).place ≡ place → (get_or ws i d).answered ≡ true → unanswered ws ≡ filter (elsewhere place) (unanswered ws)
left-answered place ws i d rises within at done =
    ap unanswered (sym (set-get_or ws i d) ∙ ap (set ws i) (same (get_or ws i d) done)) ∙ left-over place ws i d rises within at where
      same : (w : Wait) → w.answered ≡ true → w ≡ over w
      same w is = ap (λ b. record { place = w.place; player = w.player; awaited = w.awaited; answered = b }) is

-- one less is unanswered
pub one_less : (ws : List Wait) (i : ℕ) (d : Wait) → i < length ws → (get_or ws i d).answered ≡ false →
    length (unanswered ws) ≡ length (unanswered (set ws i (over (get_or ws i d)))) + 1
one_less [] i d within still = absurd (omega arith)
one_less (w ∷ ws) zero d within still =
    ap (λ b. length (cond (not b) (w ∷ unanswered ws) (unanswered ws))) still ∙ plus (length (unanswered ws)) where
      plus : (n : ℕ) → suc n ≡ n + 1
      plus n = omega arith
one_less (w ∷ ws) (suc i) d within still = by (not w.answered) (one_less ws i d (omega arith) still) where
  after : List Wait
  after = unanswered (set ws i (over (get_or ws i d)))

  by : (b : Bool) → length (unanswered ws) ≡ length after + 1 →
      length (cond b (w ∷ unanswered ws) (unanswered ws)) ≡ length (cond b (w ∷ after) after) + 1
  by true less = omega arith
  by false less = less

-- the answered ones are taken out
pub open_again : (ws : List Wait) → unanswered (unanswered ws) ≡ unanswered ws
open_again ws = filter_all (λ (w : Wait). not w.answered) (unanswered ws) (filter_passes (λ (w : Wait). not w.answered) ws)

-- a wait more
pub unanswered-awaiting : (place : ℕ) (ws : List Wait) (wait : Option Wait) → IsNewAt place wait →
    unanswered (awaiting ws wait) ≡ awaiting (unanswered ws) wait
unanswered-awaiting place ws None new =
    ap unanswered (append-nil ws) ∙ sym (append-nil (unanswered ws))
unanswered-awaiting place ws (Some w) new =
    filter-append (λ (w : Wait). not w.answered) ws (w ∷ [])
    ∙ ap (λ b. unanswered ws ++ cond (not b) (w ∷ []) []) new.1

pub rises-awaiting : (next place : ℕ) (ws : List Wait) (w : Wait) → Rises ws → All (λ (w : Wait). w.place < next) ws →
    next ≤ place → w.place ≡ place → Rises (ws ++ w ∷ [])
rises-awaiting next place ws w rises below up at =
    all_pairs_push (λ (v w : Wait). v.place < w.place) ws w rises (λ k d within. let less = below k d within in omega arith)

-- The first that isn't below a place.
pub parted : (place : ℕ) (ws : List Wait) → Rises ws → IsPartitionedBy (λ (w : Wait). ltb w.place place) ws
parted place ws rises = λ i j d less within passes.
    by i j d (cases_eq i j) less within (ltb-true (get_or ws j d).place place passes) where
      by : (i j : ℕ) (d : Wait) → (i ≡ j) ⊎ (i ≡ j → ⊥) → i ≤ j → j < length ws → (get_or ws j d).place < place →
          ltb (get_or ws i d).place place ≡ true
      by i j d (inl same) less within below =
          lt-ltb (get_or ws i d).place place (subst (λ n. (get_or ws n d).place < place) (sym same) below)
      by i j d (inr differ) less within below =
          let rise = rises i j d (omega arith) within in
          lt-ltb (get_or ws i d).place place (omega arith)

pub nowhere : (place i : ℕ) (ws : List Wait) → Rises ws →
    IsPartitionPoint (λ (w : Wait). ltb w.place place ≡ true) (λ (w : Wait). ltb w.place place ≡ false) ws i →
    ((d : Wait) → i < length ws → (get_or ws i d).place ≢ place) → All (λ (w : Wait). w.place ≢ place) ws
nowhere place i ws rises point differ = λ k d within is. by k d within is (cases_order k i) where
  by : (k : ℕ) (d : Wait) → k < length ws → (get_or ws k d).place ≡ place → (k ≡ i) ⊎ ((k < i) ⊎ (i < k)) → ⊥
  by k d within is (inl same) = differ d (omega arith) (subst (λ n. (get_or ws n d).place ≡ place) same is)
  by k d within is (inr (inl less)) =
      let below = ltb-true (get_or ws k d).place place (point.0 k d (omega arith) less) in omega arith
  by k d within is (inr (inr more)) =
      let here = ltb-false (get_or ws i d).place place (point.1 i d (omega arith) (omega arith)) in
      let rise = rises i k d more within in
      omega arith
