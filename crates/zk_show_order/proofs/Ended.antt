-- Lines that are drawn until no lane can go on: then all are drawn, or there is no order of them.
use Rattle.std.proofs.Common.{◌≡◌, inl, inr, ℕ, ◌<◌, ◌≤◌, Bool, true, false, not, ◌&&◌, cond, eqb, leb, List, [], ◌∷◌, ◌++◌, length, take, Contains, get_or, refl, sym, ap, subst, ◌∙◌, arith, append-nil}
use Rattle.std.specs.List.{concat, range_with_len, count_by, position_or_len}
use Rattle.std.specs.List.Sorted.{IsPermutation}
use Rattle.std.proofs.lemmas.Bool.{cases_Bool, cases_eq, cases_lt, cases_order, eqb-true, leb-true, le-leb, eq-eqb, and_parts, and_from, and_right, both_ways, not-true, not_from_true, not_from_false}
use Rattle.std.proofs.lemmas.List.{nil_from_length, get_or-take, get_or-map, length-map, length-take-le, get_or_default}
use Rattle.std.proofs.lemmas.List.Elements.{All-contains, Contains-get_or}
use Rattle.std.proofs.lemmas.List.Sorted.{Contains-permutation}
use Rattle.std.proofs.lemmas.List.Sums.{sum_by-take-le, fails_before_first, passes_at_first}
use Rattle.zk_worker.specs.declared.steps.Spot.{Spot}
use Rattle.zk_worker.specs.Shown.{is_look}
use Rattle.zk_trace.specs.declared.stood.Stood.{Stood}
use Rattle.zk_show_order.specs.Services.{service_of, entries_above, fits_below, is_entry_of}
use Rattle.zk_show_order.specs.Order.{line_at, lines_at, AllFollow, IsOrder, HasNoOrder}
use Rattle.zk_show_order.specs.Lanes.{IsLane}
use Rattle.zk_show_order.specs.Drawing.{AreDrawn, IsHeld}
use Rattle.zk_show_order.proofs.Counting.{count-append, count-permutation, count-below, count-none, count-map, count-le, counted-at, CountedAt}
use Rattle.zk_show_order.proofs.Containing.{contains-here, contains-cases, contains-none, contains-joined, joined-contains, has, has-yes, has-no}
use Rattle.zk_show_order.proofs.Drawn.{range-within, lane-player, drawn-length, left-within, drawn-within, service-within}

-- where all are drawn, this is an order
pub drawn-all : (lines : List Stood) (lanes : List (List ℕ)) (entries order : List ℕ) → AreDrawn lines lanes entries order →
    length order ≡ length lines → IsOrder lines order
drawn-all lines lanes entries order drawn all = record {
  each =
      subst (λ (l : List ℕ). IsPermutation (range_with_len 0 (length lines)) l)
      (ap (λ (l : List ℕ). order ++ l) (nil_from_length (concat lanes) (let long = drawn-length lines lanes entries order drawn in omega arith))
      ∙ append-nil order)
      drawn.each;
  follow = drawn.follow;
}

module _ (lines : List Stood) (order : List ℕ) (is : IsOrder lines order) where
  -- each line stands in an order
  pub order-has : (place : ℕ) → place < length lines → Contains order place
  order-has place within =
      Contains-permutation (range_with_len 0 (length lines)) order place is.each (range-within (length lines) place within)

  -- steps of one player rise in it
  pub order-steps : (j k : ℕ) → j < k → k < length order →
      (line_at lines (get_or order j 0)).player ≡ (line_at lines (get_or order k 0)).player →
      (line_at lines (get_or order j 0)).step < (line_at lines (get_or order k 0)).step
  order-steps j k before inside same =
      let d : Stood = line_at lines (get_or order j 0) in
      let front = take k order in
      let short = length-take-le k order (omega arith) in
      let there : get_or (lines_at lines front) j d ≡ d =
      get_or-map (line_at lines) front j 0 d (omega arith) ∙ ap (line_at lines) (get_or-take k order j 0 before) in
      let last = line_at lines (get_or order k 0) in
      subst (λ (l : Stood). l.step < last.step) there
      ((is.follow k inside).steps j d (let long = length-map front (line_at lines) in omega arith)
      (ap (λ (l : Stood). l.player) there ∙ same))

  -- how many entries of its service stand before a line
  abbrev before : ℕ → ℕ → ℕ
  before service k = count_by (λ (place : ℕ). is_entry_of service (line_at lines place)) (take k order)

  pub order-history : (k : ℕ) → k < length order →
      let line = line_at lines (get_or order k 0) in fits_below line.spot (before (service_of line.spot) k) ≡ true
  order-history k inside =
      let line = line_at lines (get_or order k 0) in
      subst (λ (n : ℕ). fits_below line.spot n ≡ true)
      (count-map (is_entry_of (service_of line.spot)) (line_at lines) (take k order)) (is.follow k inside).history

-- what fits of an entry, and of a look
fits-entry : (spot : Spot) (count : ℕ) → is_look spot ≡ false → fits_below spot count ≡ true → entries_above spot ≡ count
fits-entry spot count entry fits =
    eqb-true (entries_above spot) count
    (sym (ap (λ (b : Bool). cond b (leb (entries_above spot) count) (eqb (entries_above spot) count)) entry) ∙ fits)

fits-look : (spot : Spot) (few many : ℕ) → is_look spot ≡ true → fits_below spot few ≡ true → few ≤ many → fits_below spot many ≡ true
fits-look spot few many look fits more =
    let least = leb-true (entries_above spot) few
    (sym (ap (λ (b : Bool). cond b (leb (entries_above spot) few) (eqb (entries_above spot) few)) look) ∙ fits) in
    ap (λ (b : Bool). cond b (leb (entries_above spot) many) (eqb (entries_above spot) many)) look
    ∙ le-leb (entries_above spot) many (omega arith)

same-fits : (spot : Spot) (count : ℕ) → is_look spot ≡ false → entries_above spot ≡ count → fits_below spot count ≡ true
same-fits spot count entry is =
    ap (λ (b : Bool). cond b (leb (entries_above spot) count) (eqb (entries_above spot) count)) entry
    ∙ eq-eqb (entries_above spot) count is

-- what an entry of a service is
entry-is : (line : Stood) → is_look line.spot ≡ false → is_entry_of (service_of line.spot) line ≡ true
entry-is line entry =
    and_from (not (is_look line.spot)) (eqb (service_of line.spot) (service_of line.spot))
    (not_from_false (is_look line.spot) entry) (eq-eqb (service_of line.spot) (service_of line.spot) refl)

entry-parts : (service : ℕ) (line : Stood) → is_entry_of service line ≡ true →
    (is_look line.spot ≡ false) × (service_of line.spot ≡ service)
entry-parts service line is =
    let parts = and_parts (not (is_look line.spot)) (eqb (service_of line.spot) service) is in
    (not-true (is_look line.spot) parts.0, eqb-true (service_of line.spot) service parts.1)

-- so many entries stand before one of them
entry-at : (lines : List Stood) (order : List ℕ) (k service : ℕ) → AllFollow lines order → k < length order →
    is_entry_of service (line_at lines (get_or order k 0)) ≡ true →
    entries_above (line_at lines (get_or order k 0)).spot ≡ count_by (λ place. is_entry_of service (line_at lines place)) (take k order)
entry-at lines order k service follow inside is =
    let line = line_at lines (get_or order k 0) in
    let parts = entry-parts service line is in
    fits-entry line.spot (count_by (is_entry_of service) (lines_at lines (take k order))) parts.0
    (subst (λ (s : ℕ). fits_below line.spot (count_by (is_entry_of s) (lines_at lines (take k order))) ≡ true) parts.1 (follow k inside).history)
    ∙ count-map (is_entry_of service) (line_at lines) (take k order)

-- the first of a list that passes a test
first-place : (p : ℕ → Bool) (xs : List ℕ) (n : ℕ) → Contains xs n → p n ≡ true → position_or_len p xs < length xs
first-place p xs n (k, within, is) passes = elim (cases_lt (position_or_len p xs) (length xs)) [
  | inl inside ↦ inside
  | inr past ↦
      absurd (both_ways (p n)
      (ap p (sym is) ∙ fails_before_first p xs k n (omega arith)) passes)
]

module _ (lines : List Stood) (lanes : List (List ℕ)) (entries order : List ℕ) (drawn : AreDrawn lines lanes entries order)
    (stuck : (player : ℕ) → player < length lanes → IsHeld lines lanes entries player)
    (other : List ℕ) (is : IsOrder lines other) where
  -- whether a line is left
  abbrev is_left : ℕ → Bool
  is_left place = has (concat lanes) place

  left-in : (place : ℕ) → Contains (concat lanes) place → Contains other place
  left-in place there = order-has lines other is place (left-within lines lanes entries order drawn place there)

  -- the place in the other order of the first line that is left
  abbrev first : ℕ
  first = position_or_len is_left other

  -- a line that is left stands in the other order from there on
  left-behind : (k : ℕ) → k < length other → Contains (concat lanes) (get_or other k 0) → first ≤ k
  left-behind k inside there = elim (cases_lt k first) [
    | inl before ↦
        absurd (both_ways (is_left (get_or other k 0)) (fails_before_first is_left other k 0 before)
        (has-yes (concat lanes) (get_or other k 0) there))
    | inr behind ↦ behind
  ]

  -- a line that is drawn isn't left
  drawn-not_left : (place : ℕ) → Contains order place → Contains (concat lanes) place → ⊥
  drawn-not_left place before after = let below = drawn.below place place before after refl in absurd (omega arith)

  abbrev is_entry : ℕ → ℕ → Bool
  is_entry service place = is_entry_of service (line_at lines place)

  -- an entry that is drawn
  abbrev is_drawn_entry : ℕ → ℕ → Bool
  is_drawn_entry service place = is_entry service place && not (is_left place)

  -- before it stand no more entries of a service than are drawn
  few-before : (service : ℕ) → first ≤ length other → count_by (is_entry service) (take first other) ≤ count_by (is_entry service) order
  few-before service inside =
      let short = length-take-le first other inside in
      let front : count_by (is_entry service) (take first other) ≤ count_by (is_drawn_entry service) (take first other) =
      count-le (is_entry service) (is_drawn_entry service) (take first other)
      (λ k d within passes. and_from (is_entry service (get_or (take first other) k d)) (not (is_left (get_or (take first other) k d)))
      passes (not_from_false (is_left (get_or (take first other) k d))
      (ap is_left (get_or-take first other k d (omega arith)) ∙ fails_before_first is_left other k d (omega arith)))) in
      let some = sum_by-take-le (λ (place : ℕ). cond (is_drawn_entry service place) 1 0) other first in
      let all = count-permutation (is_drawn_entry service) (range_with_len 0 (length lines)) other is.each in
      let each = count-permutation (is_drawn_entry service) (range_with_len 0 (length lines)) (order ++ concat lanes) drawn.each in
      let both = count-append (is_drawn_entry service) order (concat lanes) in
      let none = count-none (is_drawn_entry service) (concat lanes)
      (λ k d within. and_right (is_entry service (get_or (concat lanes) k d)) (not (is_left (get_or (concat lanes) k d)))
      (not_from_true (is_left (get_or (concat lanes) k d))
      (has-yes (concat lanes) (get_or (concat lanes) k d) (Contains-get_or (concat lanes) k d within)))) in
      let fewer = count-le (is_drawn_entry service) (is_entry service) order
      (λ k d within passes. (and_parts (is_entry service (get_or order k d)) (not (is_left (get_or order k d))) passes).0) in
      omega arith

  -- The first line that is left.
  module _ (inside : first < length other) where
    abbrev place : ℕ
    place = get_or other first 0

    abbrev line : Stood
    line = line_at lines place

    place-left : Contains (concat lanes) place
    place-left = has-no (concat lanes) place (passes_at_first is_left other 0 inside)

    -- it is the next of its lane, since what stands before it there is left too, and stands before it in each order
    next-in : (player : ℕ) → player < length lanes → (lane : List ℕ) → get_or lanes player [] ≡ lane → Contains lane place →
        (more : List ℕ) × (get_or lanes player [] ≡ place ∷ more)
    next-in player within [] lane there = absurd (contains-none place there)
    next-in player within (head ∷ more) lane there = elim (contains-cases head more place there) [
      | inl same ↦ (more, lane ∙ ap (λ (p : ℕ). p ∷ more) same)
      | inr behind ↦
          let own = subst (IsLane lines player) lane (drawn.own player [] within) in
          let below = All-contains (λ (p : ℕ). (line_at lines head).step < (line_at lines p).step) more place own.1 behind in
          let left = joined-contains lanes player head within
          (subst (λ (l : List ℕ). Contains l head) (sym lane) (contains-here head more)) in
          let same = own.0 ∙ sym (lane-player lines player (head ∷ more) place own there) in
          absurd (not-behind head left below same)
    ] where
      not-behind : (head : ℕ) → Contains (concat lanes) head → (line_at lines head).step < line.step →
          (line_at lines head).player ≡ line.player → ⊥
      not-behind head left below same =
          let there = left-in head left in
          let k = there.0 in
          let at : get_or other k 0 ≡ head = get_or_default other k 0 head there.1 ∙ there.2 in
          let behind = left-behind k there.1 (subst (λ (p : ℕ). Contains (concat lanes) p) (sym at) left) in
          elim (cases_eq first k) [
            | inl here ↦
                let again : place ≡ head = ap (λ (n : ℕ). get_or other n 0) here ∙ at in
                let step = ap (λ (p : ℕ). (line_at lines p).step) again in
                omega arith
            | inr apart ↦
                let rising = order-steps lines other is first k (omega arith) there.1
                (sym same ∙ ap (λ (p : ℕ). (line_at lines p).player) (sym at)) in
                let step = ap (λ (p : ℕ). (line_at lines p).step) at in
                omega arith
          ]

    -- but its lane is held
    held : fits_below line.spot (get_or entries (service_of line.spot) 0) ≡ false
    held = by (contains-joined lanes place place-left)
      where
        by : (k : ℕ) × (k < length lanes) × Contains (get_or lanes k []) place →
            fits_below line.spot (get_or entries (service_of line.spot) 0) ≡ false
        by (player, within, there) =
            let next = next-in player within (get_or lanes player []) refl there in
            stuck player within place next.0 next.1

    abbrev service : ℕ
    service = service_of line.spot

    counts : get_or entries service 0 ≡ count_by (is_entry service) order
    counts =
        drawn.counts service (service-within lines lanes entries order drawn place (left-within lines lanes entries order drawn place place-left))
        ∙ count-map (is_entry_of service) (line_at lines) order

    here : fits_below line.spot (count_by (is_entry service) (take first other)) ≡ true
    here = order-history lines other is first inside

    few : count_by (is_entry service) (take first other) ≤ get_or entries service 0
    few = let short = few-before service (omega arith) in omega (arith, counts)

    -- a look that fits there fits here
    no-look : is_look line.spot ≡ true → ⊥
    no-look look =
        both_ways (fits_below line.spot (get_or entries service 0)) held
        (fits-look line.spot (count_by (is_entry service) (take first other)) (get_or entries service 0) look here few)

    -- and another entry of its service can't be drawn at its place
    not-drawn : is_look line.spot ≡ false → CountedAt (is_entry service) order (count_by (is_entry service) (take first other)) 0 → ⊥
    not-drawn entry (k, within, passes, count) =
        let drawn_place = get_or order k 0 in
        let there = order-has lines other is drawn_place
        (drawn-within lines lanes entries order drawn drawn_place (Contains-get_or order k 0 within)) in
        let m = there.0 in
        let at : get_or other m 0 ≡ drawn_place = get_or_default other m 0 drawn_place there.1 ∙ there.2 in
        let again : is_entry service (get_or other m 0) ≡ true = ap (is_entry service) at ∙ passes in
        let above = entry-at lines order k service drawn.follow within passes in
        let above_there = entry-at lines other m service is.follow there.1 again in
        let same = ap (λ (p : ℕ). entries_above (line_at lines p).spot) at in
        elim (cases_order m first) [
          | inl here ↦
              drawn-not_left drawn_place (Contains-get_or order k 0 within)
              (subst (λ (p : ℕ). Contains (concat lanes) p) (sym (ap (λ (n : ℕ). get_or other n 0) here) ∙ at) place-left)
          | inr apart ↦ elim apart [
            | inl before ↦ let fewer = count-below (is_entry service) other m first 0 before there.1 again in omega arith
            | inr behind ↦
                let more = count-below (is_entry service) other first m 0 behind inside (entry-is line entry) in omega arith
          ]
        ]

    no-entry : is_look line.spot ≡ false → ⊥
    no-entry entry = elim (cases_lt (count_by (is_entry service) (take first other)) (get_or entries service 0)) [
      | inl below ↦
          not-drawn entry
          (counted-at (is_entry service) order (count_by (is_entry service) (take first other)) 0 (omega (arith, counts)))
      | inr above ↦
          both_ways (fits_below line.spot (get_or entries service 0)) held
          (same-fits line.spot (get_or entries service 0) entry
          (let above_it = fits-entry line.spot (count_by (is_entry service) (take first other)) entry here in omega (arith, few)))
    ]

    pub no-first : ⊥
    no-first = elim (cases_Bool (is_look line.spot)) [ inl look ↦ no-look look | inr entry ↦ no-entry entry ]

  pub no-order : length order < length lines → ⊥
  no-order some =
      let long = drawn-length lines lanes entries order drawn in
      let one = Contains-get_or (concat lanes) 0 0 (omega arith) in
      no-first (first-place is_left other (get_or (concat lanes) 0 0) (left-in (get_or (concat lanes) 0 0) one)
      (has-yes (concat lanes) (get_or (concat lanes) 0 0) one))

-- where some are left and no lane can go on, there is no order
pub drawn-stuck : (lines : List Stood) (lanes : List (List ℕ)) (entries order : List ℕ) → AreDrawn lines lanes entries order →
    ((player : ℕ) → player < length lanes → IsHeld lines lanes entries player) → length order < length lines → HasNoOrder lines
drawn-stuck lines lanes entries order drawn stuck some other is = no-order lines lanes entries order drawn stuck other is some
