-- A line may stand behind others just where it isn't misplaced.
use Rattle.std.proofs.Common.{◌≡◌, ℕ, zero, suc, ◌<◌, ◌≤◌, Bool, true, false, not, cond, eqb, ltb, Option, Some, None, List, [], ◌∷◌, take, slice_get, arith, refl, sym, ap, subst, inl, inr, ◌∙◌}
use Rattle.std.specs.List.{list_any}
use Rattle.std.specs.Option.{option_or}
use Rattle.std.proofs.lemmas.Bool.{eqb-true, eq-eqb, ltb-true, ltb-false, cases_lt, and_parts, and_from, and_cases, or_cases, or_parts, or_left, or_right, not-true, not-false, both_ways, true≢false, false≢true}
use Rattle.std.proofs.lemmas.Option.{none-some, same_Some}
use Rattle.zk_trace.specs.declared.stood.Stood.{Stood}
use Rattle.zk_failures.specs.Standing.{is_step, last_of, rises, may_stand}
use Rattle.zk_failures.specs.Parts.{AreTogether}
use Rattle.zk_failures.specs.PlaceFailure.{same_part, IsBehind, IsMisplaced}

-- One of the first lines passes a test.

record Passing (passes : Stood → Bool) (lines : List Stood) (upto : ℕ) : Type 0 where
  place : ℕ
  line : Stood
  lower : place < upto
  there : slice_get lines place ≡ Some line
  is : passes line ≡ true

any-there : (passes : Stood → Bool) (lines : List Stood) (upto : ℕ) → list_any passes (take upto lines) ≡ true → Passing passes lines upto
any-there passes lines zero some = absurd (false≢true some)
any-there passes [] (suc upto) some = absurd (false≢true some)
any-there passes (x ∷ lines) (suc upto) some = elim (or_cases (passes x) (list_any passes (take upto lines)) some) [
  | inl here ↦ record { place = 0; line = x; lower = omega arith; there = refl; is = here }
  | inr later ↦
      let p = any-there passes lines upto later in
      record { place = suc p.place; line = p.line; lower = omega (arith, p.lower); there = p.there; is = p.is }
]

any-at : (passes : Stood → Bool) (lines : List Stood) (upto place : ℕ) (line : Stood) → place < upto → slice_get lines place ≡ Some line → passes line ≡ true → list_any passes (take upto lines) ≡ true
any-at passes lines zero place line lower there is = absurd (omega (arith, lower))
any-at passes [] (suc upto) place line lower there is = absurd (none-some line there)
any-at passes (x ∷ lines) (suc upto) zero line lower there is = or_left (passes x) (list_any passes (take upto lines)) (ap passes (same_Some x line there) ∙ is)
any-at passes (x ∷ lines) (suc upto) (suc place) line lower there is =
    or_right (passes x) (list_any passes (take upto lines)) (any-at passes lines upto place line (omega (arith, lower)) there is)

-- The last of the first lines of a player.

record Latest (player : ℕ) (lines : List Stood) (upto : ℕ) (line : Stood) : Type 0 where
  place : ℕ
  lower : place < upto
  there : slice_get lines place ≡ Some line
  mine : eqb line.player player ≡ true
  latest : (other : ℕ) (l : Stood) → other < upto → slice_get lines other ≡ Some l → eqb l.player player ≡ true → other ≤ place

last-none : (player : ℕ) (lines : List Stood) (upto : ℕ) → last_of player (take upto lines) ≡ None → (place : ℕ) (line : Stood) → place < upto → slice_get lines place ≡ Some line → eqb line.player player ≡ true → ⊥
last-none player lines zero nothing place line lower there mine = omega (arith, lower)
last-none player [] (suc upto) nothing place line lower there mine = none-some line there
last-none player (x ∷ lines) (suc upto) nothing place line lower there mine =
    by (last_of player (take upto lines)) refl nothing place lower there (λ none p low here. last-none player lines upto none p line low here mine) where
      by : (o : Option Stood) → last_of player (take upto lines) ≡ o → option_or o (cond (eqb x.player player) (Some x) None) ≡ None → (p : ℕ) → p < suc upto → slice_get (x ∷ lines) p ≡ Some line →
          (last_of player (take upto lines) ≡ None → (p : ℕ) → p < upto → slice_get lines p ≡ Some line → ⊥) → ⊥
      by None is none zero low here rest =
          let is_mine : eqb x.player player ≡ true = ap (λ (l : Stood). eqb l.player player) (same_Some x line here) ∙ mine in
          none-some x (sym none ∙ ap (λ b. cond b (Some x) None) is_mine)
      by None is none (suc p) low here rest = rest is p (omega (arith, low)) here
      by (Some l) is none p low here rest = none-some l (sym none)

last-there : (player : ℕ) (lines : List Stood) (upto : ℕ) (line : Stood) → last_of player (take upto lines) ≡ Some line → Latest player lines upto line
last-there player lines zero line is = absurd (none-some line is)
last-there player [] (suc upto) line is = absurd (none-some line is)
last-there player (x ∷ lines) (suc upto) line is = by (last_of player (take upto lines)) refl is (λ found. last-there player lines upto line found) where
  first : (b : Bool) → eqb x.player player ≡ b → last_of player (take upto lines) ≡ None → cond b (Some x) None ≡ Some line → Latest player (x ∷ lines) (suc upto) line
  first true mine rest here =
      let same = same_Some x line here in record {
        place = 0;
        lower = omega arith;
        there = here;
        mine = ap (λ (l : Stood). eqb l.player player) (sym same) ∙ mine;
        latest = only rest;
      } where
        only : last_of player (take upto lines) ≡ None → (other : ℕ) (l : Stood) → other < suc upto → slice_get (x ∷ lines) other ≡ Some l → eqb l.player player ≡ true → other ≤ 0
        only rest zero l low there is = omega arith
        only rest (suc other) l low there is = absurd (last-none player lines upto rest other l (omega (arith, low)) there is)
  first false mine rest here = absurd (none-some line here)

  later : Latest player lines upto line → Latest player (x ∷ lines) (suc upto) line
  later l = record { place = suc l.place; lower = omega (arith, l.lower); there = l.there; mine = l.mine; latest = all } where
    all : (other : ℕ) (m : Stood) → other < suc upto → slice_get (x ∷ lines) other ≡ Some m → eqb m.player player ≡ true → other ≤ suc l.place
    all zero m low there is = omega arith
    all (suc other) m low there is = let below = l.latest other m (omega (arith, low)) there is in omega (arith, below)

  by : (o : Option Stood) → last_of player (take upto lines) ≡ o → option_or o (cond (eqb x.player player) (Some x) None) ≡ Some line →
      (last_of player (take upto lines) ≡ Some line → Latest player lines upto line) → Latest player (x ∷ lines) (suc upto) line
  by None found here rest = first (eqb x.player player) refl found here
  by (Some l) found here rest = later (rest (found ∙ here))

module _ (lines : List Stood) (place : ℕ) (line : Stood) (there : slice_get lines place ≡ Some line) where
  abbrev front : List Stood
  front = take place lines

  misplaced : (before : ℕ) (earlier : Stood) → before < place → slice_get lines before ≡ Some earlier → IsBehind earlier line → IsMisplaced lines place
  misplaced before earlier lower stands behind = record { line = line; there = there; before = before; earlier = earlier; lower = lower; stands = stands; behind = behind }

  -- one that may not is misplaced
  pub misplaced-here : may_stand front line ≡ false → IsMisplaced lines place
  misplaced-here never = elim (and_cases (not (list_any (is_step line.player line.step) front)) (rises (last_of line.player front) line) never) [
    | inl some ↦
        let p = any-there (is_step line.player line.step) lines place (not-false (list_any (is_step line.player line.step) front) some) in
        let is = and_parts (eqb p.line.player line.player) (eqb p.line.step line.step) p.is in
        misplaced p.place p.line p.lower p.there (eqb-true p.line.player line.player is.0, inl (eqb-true p.line.step line.step is.1))
    | inr falls ↦ by (last_of line.player front) refl falls
  ] where
    by : (o : Option Stood) → last_of line.player front ≡ o → rises o line ≡ false → IsMisplaced lines place
    by None is falls = absurd (true≢false falls)
    by (Some last) is falls =
        let l = last-there line.player lines place last is in
        let parts = or_parts (not (same_part last.spot line.spot)) (ltb last.step line.step) falls in
        misplaced l.place last l.lower l.there (eqb-true last.player line.player l.mine, inr (not-false (same_part last.spot line.spot) parts.0, ltb-false last.step line.step parts.1))

  module _ (grouped : AreTogether lines) (none_before : (k : ℕ) → k < place → IsMisplaced lines k → ⊥) (may : may_stand front line ≡ true) where
    abbrev stands : (list_any (is_step line.player line.step) front ≡ false) × (rises (last_of line.player front) line ≡ true)
    stands =
        let both = and_parts (not (list_any (is_step line.player line.step) front)) (rises (last_of line.player front) line) may in
        (not-true (list_any (is_step line.player line.step) front) both.0, both.1)

    not-behind : (before : ℕ) (earlier : Stood) → before < place → slice_get lines before ≡ Some earlier → IsBehind earlier line → ⊥
    not-behind before earlier lower here behind = elim behind.1 [
      | inl same ↦
          both_ways (list_any (is_step line.player line.step) front) stands.0
          (any-at (is_step line.player line.step) lines place before earlier lower here
          (and_from (eqb earlier.player line.player) (eqb earlier.step line.step) mine (eq-eqb earlier.step line.step same)))
      | inr part ↦ by (last_of line.player front) refl stands.1 part.0 part.1
    ] where
      mine : eqb earlier.player line.player ≡ true
      mine = eq-eqb earlier.player line.player behind.0

      below : (last : Stood) → rises (Some last) line ≡ true → same_part last.spot line.spot ≡ true → last.step < line.step
      below last up same = elim (or_cases (not (same_part last.spot line.spot)) (ltb last.step line.step) up) [
        | inl other ↦ absurd (both_ways (same_part last.spot line.spot) (not-true (same_part last.spot line.spot) other) same)
        | inr less ↦ ltb-true last.step line.step less
      ]

      by : (o : Option Stood) → last_of line.player front ≡ o → rises o line ≡ true → same_part earlier.spot line.spot ≡ true → line.step ≤ earlier.step → ⊥
      by None is up same high = last-none line.player lines place is before earlier lower here mine
      by (Some last) is up same high =
          let l = last-there line.player lines place last is in
          elim (cases_lt before l.place) [
            | inl less ↦
                let both = grouped before l.place place earlier last line less l.lower here l.there there same in
                let low = below last up both.1 in
                none_before l.place l.lower (record {
                  line = last;
                  there = l.there;
                  before = before;
                  earlier = earlier;
                  lower = less;
                  stands = here;
                  behind = (behind.0 ∙ sym (eqb-true last.player line.player l.mine), inr (both.0, omega (arith, low, high)));
                })
            | inr more ↦
                let most = l.latest before earlier lower here mine in
                let at : before ≡ l.place = omega (arith, more, most) in
                let one : earlier ≡ last = same_Some earlier last (sym here ∙ ap (slice_get lines) at ∙ l.there) in
                let low = below last up (subst (λ (e : Stood). same_part e.spot line.spot ≡ true) one same) in
                let step : earlier.step ≡ last.step = ap (λ (e : Stood). e.step) one in
                omega (arith, low, high, step)
          ]

    -- and one that may isn't, where none before it is
    pub misplaced-never : IsMisplaced lines place → ⊥
    misplaced-never m =
        let same : m.line ≡ line = same_Some m.line line (sym m.there ∙ there) in
        not-behind m.before m.earlier m.lower m.stands (subst (λ (l : Stood). IsBehind m.earlier l) same m.behind)
