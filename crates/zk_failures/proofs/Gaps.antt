-- Where no line is misplaced, a player has a gap just where its steps go higher than they are many, or are too many.
use Rattle.std.proofs.Common.{◌≡◌, ℕ, zero, suc, ◌+◌, ◌<◌, ◌≤◌, max, Bool, true, false, ◌&&◌, ◌||◌, cond, eqb, ltb, leb, Some, List, [], ◌∷◌, length, get_or, map, slice_get, arith, refl, sym, ap, subst, inl, inr, ◌∙◌}
use Rattle.std.specs.List.{All, AllByRecursion, list_any, filter, range_with_len, count_by}
use Rattle.std.proofs.lemmas.Bool.{eqb-true, eq-eqb, cases_eq, or_cases, or_parts, or_from, lt-leb, leb-false, ltb-true, ltb-false, false_from_ne_true, true_from_ne_false, false≢true}
use Rattle.std.proofs.lemmas.List.{length-map}
use Rattle.std.proofs.lemmas.List.Elements.{All-from_recursion}
use Rattle.std.proofs.lemmas.List.Sums.{length-filter}
use Rattle.std.proofs.lemmas.Option.{slice_get_within, slice_get-get_or}
use Rattle.zk_base.specs.Order.{by_key, Ascends}
use Rattle.zk_base.proofs.Order.{All-by_key, length-by_key, length-filter_by_key, list_any-by_key}
use Rattle.zk_scenario.specs.Content.{Content}
use Rattle.zk_scenario.specs.Players.{players}
use Rattle.zk_scenario.specs.Steps.{steps_of}
use Rattle.zk_trace.specs.declared.stood.Stood.{Stood}
use Rattle.zk_trace.specs.declared.trace.Trace.{Trace}
use Rattle.zk_trace.specs.Stood.{is_of, stood}
use Rattle.zk_trace.proofs.LinesOnce.{filter-both}
use Rattle.zk_trace.proofs.Stable.{ascends-by_key}
use Rattle.zk_failures.specs.declared.own.Own.{Own}
use Rattle.zk_failures.specs.First.{IsFirst, HoldsNowhere}
use Rattle.zk_failures.specs.Own.{AreOwn, has_gap, IsGapAt}
use Rattle.zk_failures.specs.Standing.{is_step, above_of}
use Rattle.zk_failures.specs.PlaceFailure.{IsMisplaced, IsGapped, IsNumbered, step_numbers}
use Rattle.zk_failures.proofs.PlacedLists.{in-long, in-filter, there-is}

-- Each step of a player has one line, where none is misplaced.

behind-first : (x : Stood) (xs : List Stood) → HoldsNowhere (IsMisplaced (x ∷ xs)) → HoldsNowhere (IsMisplaced xs)
behind-first x xs nowhere place m =
    nowhere (suc place) (record { line = m.line; there = m.there; before = suc m.before; earlier = m.earlier; lower = omega (arith, m.lower); stands = m.stands; behind = m.behind })

any-place : (passes : Stood → Bool) (xs : List Stood) → list_any passes xs ≡ true → (place : ℕ) × (line : Stood) × (slice_get xs place ≡ Some line) × (passes line ≡ true)
any-place passes [] some = absurd (false≢true some)
any-place passes (x ∷ xs) some = elim (or_cases (passes x) (list_any passes xs) some) [
  | inl here ↦ (0, x, refl, here)
  | inr later ↦ let p = any-place passes xs later in (suc p.0, p.1, p.2, p.3)
]

none-kept : (passes : Stood → Bool) (xs : List Stood) → list_any passes xs ≡ false → length (filter passes xs) ≡ 0
none-kept passes [] none = refl
none-kept passes (x ∷ xs) none =
    let parts = or_parts (passes x) (list_any passes xs) none in
    ap (λ b. length (cond b (x ∷ filter passes xs) (filter passes xs))) parts.0 ∙ none-kept passes xs parts.1

step-is : (player step : ℕ) (line : Stood) → is_step player step line ≡ true → (line.player ≡ player) × (line.step ≡ step)
step-is player step line is = by (eqb line.player player) (eqb line.step step) refl refl is where
  by : (p q : Bool) → eqb line.player player ≡ p → eqb line.step step ≡ q → (p && q) ≡ true → (line.player ≡ player) × (line.step ≡ step)
  by true true mine one is = (eqb-true line.player player mine, eqb-true line.step step one)
  by true false mine one is = absurd (false≢true is)
  by false q mine one is = absurd (false≢true is)

once : (xs : List Stood) → HoldsNowhere (IsMisplaced xs) → (player step : ℕ) → length (filter (is_step player step) xs) ≤ 1
once [] nowhere player step = omega arith
once (x ∷ xs) nowhere player step = by (is_step player step x) refl (once xs (behind-first x xs nowhere) player step) where
  alone : is_step player step x ≡ true → list_any (is_step player step) xs ≡ true → ⊥
  alone here later =
      let p = any-place (is_step player step) xs later in
      let first = step-is player step x here in
      let other = step-is player step p.1 p.3 in
      nowhere (suc p.0) (record {
        line = p.1;
        there = p.2;
        before = 0;
        earlier = x;
        lower = omega arith;
        stands = refl;
        behind = (first.0 ∙ sym other.0, inl (first.1 ∙ sym other.1));
      })

  by : (b : Bool) → is_step player step x ≡ b → length (filter (is_step player step) xs) ≤ 1 → length (cond b (x ∷ filter (is_step player step) xs) (filter (is_step player step) xs)) ≤ 1
  by true here rest = let none = none-kept (is_step player step) xs (false_from_ne_true (list_any (is_step player step) xs) (alone here)) in omega (arith, none)
  by false here rest = rest

-- Numbers that ascend and differ, from one number on and below another, are all those between.

abbrev step_of : Stood → ℕ
step_of line = line.step

abbrev has_key : ℕ → Stood → Bool
has_key k line = eqb line.step k

keys-behind : (x : Stood) (xs : List Stood) → ((k : ℕ) → length (filter (has_key k) (x ∷ xs)) ≤ 1) → (k : ℕ) → length (filter (has_key k) xs) ≤ 1
keys-behind x xs single k = by (has_key k x) (single k) where
  by : (b : Bool) → length (cond b (x ∷ filter (has_key k) xs) (filter (has_key k) xs)) ≤ 1 → length (filter (has_key k) xs) ≤ 1
  by true short = omega (arith, short)
  by false short = short

-- where one is of the first key, no other is
alone : (x : Stood) (xs : List Stood) → length (filter (has_key x.step) (x ∷ xs)) ≤ 1 → length (filter (has_key x.step) xs) ≡ 0
alone x xs short = by (has_key x.step x) (eq-eqb x.step x.step refl) short where
  by : (b : Bool) → b ≡ true → length (cond b (x ∷ filter (has_key x.step) xs) (filter (has_key x.step) xs)) ≤ 1 → length (filter (has_key x.step) xs) ≡ 0
  by true is short = omega (arith, short)
  by false is short = absurd (false≢true is)

rising : (x : Stood) (xs : List Stood) → Ascends step_of (x ∷ xs) → ((k : ℕ) → length (filter (has_key k) (x ∷ xs)) ≤ 1) → All (λ y. x.step < y.step) xs
rising x xs up single place d within =
    let above = up.0 place d within in
    let y = get_or xs place d in
    let none = alone x xs (single x.step) in
    elim (cases_eq y.step x.step) [
      | inl same ↦ let some = in-long (filter (has_key x.step) xs) y (in-filter (has_key x.step) xs y (place, slice_get-get_or xs place d within) (eq-eqb y.step x.step same)) in absurd (omega (arith, none, some))
      | inr other ↦ grind (arith, above, other)
    ]

numbered : (from : ℕ) (xs : List Stood) → Ascends step_of xs → ((k : ℕ) → length (filter (has_key k) xs) ≤ 1) → All (λ y. from ≤ y.step) xs → All (λ y. y.step < from + length xs) xs →
    map step_of xs ≡ range_with_len from (length xs)
numbered from [] up single low high = refl
numbered from (x ∷ xs) up single low high =
    let first : from ≤ x.step = low 0 x (omega arith) in
    let top : x.step < from + suc (length xs) = high 0 x (omega arith) in
    let more = rising x xs up single in
    let rest = numbered (from + 1) xs up.1 (keys-behind x xs single)
    (λ place d within. let m = more place d within in omega (arith, m, first))
    (λ place d within. let h = high (suc place) d (omega (arith, within)) in omega (arith, h)) in
    let here : x.step ≡ from = head xs more rest first top in
    ap (λ n. n ∷ map step_of xs) here ∙ ap (λ l. from ∷ l) rest where
      head : (ys : List Stood) → All (λ y. x.step < y.step) ys → map step_of ys ≡ range_with_len (from + 1) (length ys) → from ≤ x.step → x.step < from + suc (length ys) → x.step ≡ from
      head [] more rest first top = omega (arith, first, top)
      head (y ∷ ys) more rest first top =
          let less : x.step < y.step = more 0 y (omega arith) in
          let next : y.step ≡ from + 1 = cc rest in
          omega (arith, less, next, first)

-- How high the steps of a player go.

below-bound : (player bound : ℕ) (lines : List Stood) → above_of player lines ≤ bound → AllByRecursion (λ l. l.step < bound) (filter (is_of player) lines)
below-bound player bound [] high = tt
below-bound player bound (x ∷ lines) high = by (is_of player x) high (below-bound player bound lines) where
  by : (b : Bool) → max (cond b (x.step + 1) 0) (above_of player lines) ≤ bound → (above_of player lines ≤ bound → AllByRecursion (λ l. l.step < bound) (filter (is_of player) lines)) →
      AllByRecursion (λ l. l.step < bound) (cond b (x ∷ filter (is_of player) lines) (filter (is_of player) lines))
  by true high rest = (omega (arith, high), rest (omega (arith, high)))
  by false high rest = rest (omega (arith, high))

bound-below : (player bound : ℕ) (lines : List Stood) → list_any (λ l. leb bound l.step) (filter (is_of player) lines) ≡ false → above_of player lines ≤ bound
bound-below player bound [] none = omega arith
bound-below player bound (x ∷ lines) none = by (is_of player x) none (bound-below player bound lines) where
  by : (b : Bool) → list_any (λ l. leb bound l.step) (cond b (x ∷ filter (is_of player) lines) (filter (is_of player) lines)) ≡ false →
      (list_any (λ l. leb bound l.step) (filter (is_of player) lines) ≡ false → above_of player lines ≤ bound) → max (cond b (x.step + 1) 0) (above_of player lines) ≤ bound
  by true none rest =
      let parts = or_parts (leb bound x.step) (list_any (λ l. leb bound l.step) (filter (is_of player) lines)) none in
      let low : x.step < bound = leb-false bound x.step parts.0 in
      let high = rest parts.1 in omega (arith, low, high)
  by false none rest = let high = rest none in omega (arith, high)

range-below : (from count : ℕ) → list_any (λ n. leb (from + count) n) (range_with_len from count) ≡ false
range-below from zero = refl
range-below from (suc count) =
    let low = lt-leb (from + suc count) from (omega arith) in
    let next : (from + 1) + count ≡ from + suc count = omega arith in
    or_from (leb (from + suc count) from) (list_any (λ n. leb (from + suc count) n) (range_with_len (from + 1) count)) low
    (subst (λ (m : ℕ). list_any (λ n. leb m n) (range_with_len (from + 1) count) ≡ false) next (range-below (from + 1) count))

any-map : (passes : ℕ → Bool) (xs : List Stood) → list_any passes (map step_of xs) ≡ list_any (λ l. passes l.step) xs
any-map passes [] = refl
any-map passes (x ∷ xs) = ap (λ b. passes x.step || b) (any-map passes xs)

module _ (lines : List Stood) (player : ℕ) where
  abbrev own : List Stood
  own = filter (is_of player) lines

  abbrev sorted : List Stood
  sorted = by_key step_of own

  long : length (step_numbers lines player) ≡ length own
  long = length-map sorted step_of ∙ length-by_key step_of own

  counted : length (step_numbers lines player) ≡ count_by (is_of player) lines
  counted = long ∙ length-filter (is_of player) lines

  -- steps that aren't higher than they are many are numbered
  numbered-so : HoldsNowhere (IsMisplaced lines) → above_of player lines ≤ count_by (is_of player) lines → IsNumbered (step_numbers lines player)
  numbered-so nowhere high =
      let many : length sorted ≡ count_by (is_of player) lines = length-by_key step_of own ∙ length-filter (is_of player) lines in
      let below = All-from_recursion (λ (l : Stood). l.step < length sorted) own (below-bound player (length sorted) lines (omega (arith, many, high))) in
      let all = All-by_key (λ (l : Stood). l.step < length sorted) step_of own below in
      let single = λ (k : ℕ). subst (λ (n : ℕ). n ≤ 1) (sym (length-filter_by_key (has_key k) step_of own ∙ ap length (filter-both (has_key k) (is_of player) lines))) (once lines nowhere player k) in
      numbered 0 sorted (ascends-by_key step_of own) single (λ place d within. omega arith) (λ place d within. let low = all place d within in omega (arith, low))
      ∙ ap (range_with_len 0) (sym (length-map sorted step_of))

  -- and numbered ones aren't
  not-higher : IsNumbered (step_numbers lines player) → above_of player lines ≤ count_by (is_of player) lines
  not-higher is =
      let count = length (step_numbers lines player) in
      let none : list_any (λ n. leb count n) (step_numbers lines player) ≡ false =
      ap (list_any (λ n. leb count n)) is ∙ subst (λ (m : ℕ). list_any (λ n. leb m n) (range_with_len 0 count) ≡ false) (omega arith) (range-below 0 count) in
      let high = bound-below player count lines (sym (list_any-by_key (λ (l : Stood). leb count l.step) step_of own) ∙ sym (any-map (λ n. leb count n) sorted) ∙ none) in
      omega (arith, high, counted)

-- The first gap.

module _ (s : Content) (t : Trace) (owns : List Own) (are : AreOwn (stood t) owns) (nowhere : HoldsNowhere (IsMisplaced (stood t))) (count : length owns ≡ length (players s.decls)) where
  gap-there : (player : ℕ) → IsGapAt (steps_of s) owns player → IsGapped s t player
  gap-there player g =
      let is = are player g.own g.there in
      let within = slice_get_within owns player g.own g.there in
      record {
        one = omega (arith, within, count);
        gap = elim (or_cases (ltb g.own.rows g.own.above) (ltb (steps_of s) g.own.rows) g.gap) [
          | inl higher ↦ inl (λ numbered.
              let high = ltb-true g.own.rows g.own.above higher in
              let low = not-higher (stood t) player numbered in
              omega (arith, high, low, is.rows, is.above))
          | inr many ↦ inr (let more = ltb-true (steps_of s) g.own.rows many in omega (arith, more, is.rows, counted (stood t) player))
        ];
      }

  gap-found : (player : ℕ) → IsGapped s t player → IsGapAt (steps_of s) owns player
  gap-found player g =
      let within : player < length owns = omega (arith, g.one, count) in
      let here = there-is owns player within in
      let is = are player here.0 here.1 in
      record {
        own = here.0;
        there = here.1;
        gap = true_from_ne_false (has_gap (steps_of s) here.0) (λ none.
            let parts = or_parts (ltb here.0.rows here.0.above) (ltb (steps_of s) here.0.rows) none in
            let high = ltb-false here.0.rows here.0.above parts.0 in
            let most = ltb-false (steps_of s) here.0.rows parts.1 in
            elim g.gap [
              | inl gap ↦ gap (numbered-so (stood t) player nowhere (omega (arith, high, is.rows, is.above)))
              | inr many ↦ omega (arith, many, most, is.rows, counted (stood t) player)
            ]);
      }

  pub gaps-nowhere : HoldsNowhere (IsGapAt (steps_of s) owns) → HoldsNowhere (IsGapped s t)
  gaps-nowhere none player g = none player (gap-found player g)

  pub gap-first : (player : ℕ) → IsFirst (IsGapAt (steps_of s) owns) player → IsFirst (IsGapped s t) player
  gap-first player first = record {
    fails = gap-there player first.fails;
    none_before = λ earlier lower g. first.none_before earlier lower (gap-found earlier g);
  }
