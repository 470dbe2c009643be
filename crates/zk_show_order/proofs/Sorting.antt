-- From the lines of each player to its lane, by step.
use Rattle.std.proofs.Common.{◌≡◌, inl, inr, ℕ, zero, suc, ◌+◌, ◌-◌, ◌<◌, ◌≤◌, Bool, ◌&&◌, eqb, Option, Some, None, Result, Ok, Err, List, [], ◌∷◌, ◌++◌, length, take, replicate, All, get_or, refl, sym, ap, subst, ◌∙◌, arith}
use Rattle.std.proofs.Math.ListN.{set}
use Rattle.std.specs.List.{concat, flat_map, range_with_len, count_by, AllZip, AllAdjacentBelow}
use Rattle.std.specs.Option.{MatchOption}
use Rattle.std.specs.Result.{IfOk}
use Rattle.std.specs.List.Sorted.{IsPermutation, IsNonDecreasingBy}
use Rattle.std.proofs.lemmas.Bool.{cases_eq, eqb-true, eq-eqb, and_parts, and_from}
use Rattle.std.proofs.lemmas.List.{length-set, get_or-set_same, get_or-set_other, get_or-replicate, length-replicate, get_or-take, length-take-le, map_push}
use Rattle.std.proofs.lemmas.List.Elements.{All-nil, All-cons, All-head, All-tail, All-push, All-map, All-weaker}
use Rattle.std.proofs.lemmas.List.Sorted.{IsPermutation-refl, IsPermutation-trans, IsPermutation-map, IsPermutation-append, IsPermutation-append_left, All-permutation}
use Rattle.zk_trace.specs.declared.stood.Stood.{Stood}
use Rattle.zk_show_order.specs.declared.lanes.Queued.{Queued}
use Rattle.zk_show_order.specs.Order.{line_at, IsOrder, HasNoOrder}
use Rattle.zk_show_order.specs.Lanes.{places_of, IsQueued, AreQueued, IsSortedLane, HasTwice, IsLane, AreLanes}
use Rattle.zk_show_order.proofs.Counting.{count-append, count-permutation, count-below, count-within, count-map, count-le, counted-at, CountedAt}
use Rattle.zk_show_order.proofs.Joining.{joined-put, range-next}
use Rattle.zk_show_order.proofs.Ended.{order-steps}

none-joined : (count : ℕ) → flat_map places_of (replicate count []) ≡ []
none-joined zero = refl
none-joined (suc count) = none-joined count

-- nothing is queued
pub queued-none : (lines : List Stood) (count : ℕ) → AreQueued lines 0 (replicate count [])
queued-none lines count = record {
  each = subst (IsPermutation []) (sym (none-joined count)) (IsPermutation-refl []);
  own = λ player d within.
      subst (All (IsQueued lines player))
      (sym (get_or-replicate count player [] d (subst (λ (n : ℕ). player < n) (length-replicate count []) within)))
      (All-nil (IsQueued lines player));
}

module _ (lines : List Stood) (count player : ℕ) (lists : List (List Queued)) (step : ℕ) (queued : AreQueued lines count lists)
    (within : player < length lists) (is : (line_at lines count).player ≡ player) (its : (line_at lines count).step ≡ step) where
  abbrev one : Queued
  one = record { step = step; place = count }

  abbrev longer : List (List Queued)
  longer = set lists player (get_or lists player [] ++ one ∷ [])

  -- one line more is queued
  pub queued-more : AreQueued lines (count + 1) longer
  queued-more = record {
    each =
        subst (λ (from : List ℕ). IsPermutation from (flat_map places_of longer)) (sym (range-next count))
        (IsPermutation-trans (range_with_len 0 count ++ count ∷ []) (flat_map places_of lists ++ count ∷ []) (flat_map places_of longer)
        (IsPermutation-append_left (count ∷ []) (range_with_len 0 count) (flat_map places_of lists) queued.each)
        (joined-put places_of count one (λ l. map_push (λ (q : Queued). q.place) l one) lists player within));
    own = λ other d inside. elim (cases_eq other player) [
      | inl same ↦
          subst (λ (p : ℕ). All (IsQueued lines p) (get_or longer p d)) (sym same)
          (subst (All (IsQueued lines player)) (sym (get_or-set_same lists player (get_or lists player [] ++ one ∷ []) d within))
          (All-push (IsQueued lines player) (get_or lists player []) one (queued.own player [] within)
          (record { player = is; step = its })))
      | inr differs ↦
          subst (All (IsQueued lines other)) (sym (get_or-set_other lists player other (get_or lists player [] ++ one ∷ []) d differs))
          (queued.own other d (subst (λ (n : ℕ). other < n) (length-set lists player (get_or lists player [] ++ one ∷ [])) inside))
    ];
  }

abbrev Rising : List Queued → Type 0
Rising queued = AllAdjacentBelow (λ a b. a.step < b.step) queued (length queued)

rising-tail : (q : Queued) (qs : List Queued) → Rising (q ∷ qs) → Rising qs
rising-tail q qs up k d inside =
    let next : suc k + 1 ≡ suc (k + 1) = omega arith in
    subst (λ (n : ℕ). (get_or qs k d).step < (get_or (q ∷ qs) n d).step) next (up (suc k) d (omega arith))

-- the first is below all behind it
first-below : (q : Queued) (qs : List Queued) → Rising (q ∷ qs) → All (λ r. q.step < r.step) qs
first-below q [] up = All-nil (λ (r : Queued). q.step < r.step)
first-below q (r ∷ rs) up =
    let one : q.step < r.step = up 0 q (omega arith) in
    All-cons (λ (s : Queued). q.step < s.step) r rs one
    (All-weaker (λ (s : Queued). r.step < s.step) (λ (s : Queued). q.step < s.step) (λ s below. omega arith) rs
    (first-below r rs (rising-tail q (r ∷ rs) up)))

module _ (lines : List Stood) (player : ℕ) where
  lane-rising : (sorted : List Queued) → All (IsQueued lines player) sorted → Rising sorted → IsLane lines player (places_of sorted)
  lane-rising [] all up = tt
  lane-rising (q ∷ qs) all up =
      let one = All-head (IsQueued lines player) q qs all in
      let rest = All-tail (IsQueued lines player) q qs all in (
        one.player,
        All-map (λ (other : ℕ). (line_at lines q.place).step < (line_at lines other).step) (λ (r : Queued). r.place) qs
            (λ k d inside.
            let below = first-below q qs up k d inside in
            let its = rest k d inside in
            let same = one.step in
            let there = its.step in
            omega arith),
        lane-rising qs rest (rising-tail q qs up),
      )

  pub lane-sorted : (queued : List Queued) (lane : List ℕ) → All (IsQueued lines player) queued → IsSortedLane queued lane →
      IsLane lines player lane
  lane-sorted queued lane all is =
      subst (IsLane lines player) (sym is.places)
      (lane-rising is.sorted (All-permutation (IsQueued lines player) queued is.sorted is.same all) is.rise)

joined-sorted : (lists : List (List Queued)) (lanes : List (List ℕ)) → AllZip IsSortedLane lists lanes →
    IsPermutation (flat_map places_of lists) (concat lanes)
joined-sorted [] [] each = IsPermutation-refl []
joined-sorted [] (lane ∷ lanes) each = absurd each
joined-sorted (queued ∷ lists) [] each = absurd each
joined-sorted (queued ∷ lists) (lane ∷ lanes) (is, each) =
    IsPermutation-append (places_of queued) lane (flat_map places_of lists) (concat lanes)
    (subst (IsPermutation (places_of queued)) (sym is.places) (IsPermutation-map (λ (q : Queued). q.place) queued is.sorted is.same))
    (joined-sorted lists lanes each)

module _ {A B : Type 0} (R : A → B → Type 0) where
  pub zip-length : (xs : List A) (ys : List B) → AllZip R xs ys → length xs ≡ length ys
  zip-length [] [] each = refl
  zip-length [] (y ∷ ys) each = absurd each
  zip-length (x ∷ xs) [] each = absurd each
  zip-length (x ∷ xs) (y ∷ ys) each = ap suc (zip-length xs ys each.1)

  zip-at : (xs : List A) (ys : List B) (k : ℕ) (d : A) (e : B) → AllZip R xs ys → k < length xs → R (get_or xs k d) (get_or ys k e)
  zip-at [] ys k d e each within = absurd (omega arith)
  zip-at (x ∷ xs) [] k d e each within = absurd each
  zip-at (x ∷ xs) (y ∷ ys) zero d e each within = each.0
  zip-at (x ∷ xs) (y ∷ ys) (suc k) d e each within = zip-at xs ys k d e each.1 (omega arith)

  -- one more of both
  pub zip-push : (xs : List A) (ys : List B) (x : A) (y : B) → AllZip R xs ys → R x y → AllZip R (xs ++ x ∷ []) (ys ++ y ∷ [])
  zip-push [] [] x y each both = (both, tt)
  zip-push [] (w ∷ ws) x y each both = absurd each
  zip-push (v ∷ vs) [] x y each both = absurd each
  zip-push (v ∷ vs) (w ∷ ws) x y each both = (each.0, zip-push vs ws x y each.1 both)

-- the lanes of all lines
pub lanes-made : (lines : List Stood) (lists : List (List Queued)) (lanes : List (List ℕ)) → AreQueued lines (length lines) lists →
    AllZip IsSortedLane lists lanes → AreLanes lines lanes
lanes-made lines lists lanes queued each = record {
  each =
      IsPermutation-trans (range_with_len 0 (length lines)) (flat_map places_of lists) (concat lanes) queued.each
      (joined-sorted lists lanes each);
  own = λ player d within.
      let inside = subst (λ (n : ℕ). player < n) (sym (zip-length IsSortedLane lists lanes each)) within in
      lane-sorted lines player (get_or lists player []) (get_or lanes player d) (queued.own player [] inside)
      (zip-at IsSortedLane lists lanes player [] d each inside);
}

-- Steps that stand twice.

abbrev has_step : ℕ → Queued → Bool
has_step step q = eqb q.step step

-- where neighbours in a sorted list don't rise
pub twice-sorted : (queued sorted : List Queued) (k : ℕ) → IsPermutation queued sorted → IsNonDecreasingBy (λ q. q.step) sorted →
    0 < k → k < length sorted → ((d : Queued) → (get_or sorted k d).step ≤ (get_or sorted (k - 1) d).step) → HasTwice queued
twice-sorted queued sorted k same up after inside down =
    let d : Queued = record { step = 0; place = 0 } in
    let step = (get_or sorted k d).step in
    let rises = up (k - 1) k d (omega arith) inside in
    let falls = down d in
    let again : (get_or sorted (k - 1) d).step ≡ step = omega arith in
    let test = has_step step in
    let first = count-below test sorted (k - 1) k d (omega arith) (omega arith) (eq-eqb (get_or sorted (k - 1) d).step step again) in
    let second = count-within test sorted k d inside (eq-eqb step step refl) in
    let all = count-permutation test queued sorted same in
    (step, omega arith)

-- one list counts no more than all
piece-le : (p : ℕ → Bool) (lists : List (List Queued)) (k : ℕ) → k < length lists →
    count_by p (places_of (get_or lists k [])) ≤ count_by p (flat_map places_of lists)
piece-le p [] k within = absurd (omega arith)
piece-le p (l ∷ ls) zero within =
    let both = count-append p (places_of l) (flat_map places_of ls) in omega arith
piece-le p (l ∷ ls) (suc k) within =
    let both = count-append p (places_of l) (flat_map places_of ls) in
    let more = piece-le p ls k (omega arith) in
    omega arith

module _ (lines : List Stood) (lists : List (List Queued)) (queued : AreQueued lines (length lines) lists) (player : ℕ)
    (within : player < length lists) (order : List ℕ) (is : IsOrder lines order) (step : ℕ) where
  abbrev is_step : ℕ → Bool
  is_step place = eqb (line_at lines place).player player && eqb (line_at lines place).step step

  abbrev own : List Queued
  own = get_or lists player []

  count-steps : count_by (has_step step) own ≤ count_by is_step order
  count-steps =
      let each = count-le (has_step step) (λ (q : Queued). is_step q.place) own
      (λ k d inside passes.
      let its = queued.own player [] within k d inside in
      and_from (eqb (line_at lines (get_or own k d).place).player player) (eqb (line_at lines (get_or own k d).place).step step)
      (eq-eqb (line_at lines (get_or own k d).place).player player its.player)
      (eq-eqb (line_at lines (get_or own k d).place).step step (its.step ∙ eqb-true (get_or own k d).step step passes))) in
      let placed = count-map is_step (λ (q : Queued). q.place) own in
      let piece = piece-le is_step lists player within in
      let all = count-permutation is_step (range_with_len 0 (length lines)) (flat_map places_of lists) queued.each in
      let drawn = count-permutation is_step (range_with_len 0 (length lines)) order is.each in
      omega arith

  twice-in : CountedAt is_step order 1 0 → ⊥
  twice-in (k, inside, passes, one) = at (counted-at is_step (take k order) 0 0 (omega arith))
    where
      at : CountedAt is_step (take k order) 0 0 → ⊥
      at (j, before, again, none) =
          let short = length-take-le k order (omega arith) in
          let there : get_or (take k order) j 0 ≡ get_or order j 0 = get_or-take k order j 0 (omega arith) in
          let first = and_parts (eqb (line_at lines (get_or order j 0)).player player) (eqb (line_at lines (get_or order j 0)).step step)
          (ap is_step (sym there) ∙ again) in
          let second = and_parts (eqb (line_at lines (get_or order k 0)).player player) (eqb (line_at lines (get_or order k 0)).step step) passes in
          let one_player = eqb-true (line_at lines (get_or order j 0)).player player first.0 in
          let same_player = eqb-true (line_at lines (get_or order k 0)).player player second.0 in
          let one_step = eqb-true (line_at lines (get_or order j 0)).step step first.1 in
          let same_step = eqb-true (line_at lines (get_or order k 0)).step step second.1 in
          let rises = order-steps lines order is j k (omega arith) inside (one_player ∙ sym same_player) in
          omega arith

-- where a step stands twice there is no order
pub twice-none : (lines : List Stood) (lists : List (List Queued)) (player : ℕ) → AreQueued lines (length lines) lists →
    player < length lists → HasTwice (get_or lists player []) → HasNoOrder lines
twice-none lines lists player queued within twice order is =
    twice-in lines lists queued player within order is twice.0
    (counted-at (is_step lines lists queued player within order is twice.0) order 1 0
    (let more = count-steps lines lists queued player within order is twice.0 in let two = twice.1 in omega arith))

-- either way
pub made-lanes : {V E : Type 0} (items : V → List (List ℕ)) (lines : List Stood) (lists : List (List Queued)) → AreQueued lines (length lines) lists →
    (r : Result (Option V) E) →
    IfOk r (λ made. MatchOption made ((k : ℕ) × (k < length lists) × HasTwice (get_or lists k [])) (λ v. AllZip IsSortedLane lists (items v))) →
    IfOk r (λ made. MatchOption made (HasNoOrder lines) (λ v. AreLanes lines (items v)))
made-lanes items lines lists queued (Ok None) (k, within, twice) = twice-none lines lists k queued within twice
made-lanes items lines lists queued (Ok (Some v)) each = lanes-made lines lists (items v) queued each
made-lanes items lines lists queued (Err e) none = tt
