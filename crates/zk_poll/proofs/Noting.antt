-- Who is noted first, and that it is noted.
use Rattle.std.proofs.Common.{◌≡◌, ℕ, suc, ◌+◌, All, Bool, true, false, not, cond, int_lt, get_or, slice_set, Some, None, List, [], ◌∷◌, refl, sym, ap, ◌∙◌, arith}
use Rattle.std.specs.List.{find, slice_get, position, position_or_len}
use Rattle.std.proofs.lemmas.List.Elements.{All-nil, All-cons, All-head, All-tail}
use Rattle.std.proofs.lemmas.List.Quantifiers.{position-Some}
use Rattle.std.proofs.lemmas.Option.{same_Some, slice_get-get_or}
use Rattle.zk_base.proofs.Firsts.{first-place, find-place, find-none}
use Rattle.zk_poll.specs.declared.notes.Member.{Member}
use Rattle.zk_poll.specs.Notes.{is_at, first_to_note, noted_at}

abbrev IsNoted : Member → Type 0
IsNoted m = m.noted ≡ true

-- where there is one so far, there is one at the end
some-stays : (best : Member) (ms : List Member) → first_to_note (Some best) ms ≡ None → ⊥
some-stays best [] none = cc
some-stays best (m ∷ ms) none = by m.noted (int_lt m.who.prio best.who.prio) none (λ x. some-stays x ms) where
  by : (noted lower : Bool) → first_to_note (cond noted (Some best) (cond lower (Some m) (Some best))) ms ≡ None →
      ((x : Member) → first_to_note (Some x) ms ≡ None → ⊥) → ⊥
  by true lower none rest = rest best none
  by false true none rest = rest m none
  by false false none rest = rest best none

-- where there is none to be noted, all are noted
pub none-left : (ms : List Member) → first_to_note None ms ≡ None → All IsNoted ms
none-left [] none = All-nil IsNoted
none-left (m ∷ ms) none = by m.noted refl none (none-left ms) where
  by : (noted : Bool) → m.noted ≡ noted → first_to_note (cond noted None (Some m)) ms ≡ None →
      (first_to_note None ms ≡ None → All IsNoted ms) → All IsNoted (m ∷ ms)
  by true is none rest = All-cons IsNoted m ms is (rest none)
  by false is none rest = absurd (some-stays m ms none)

-- and the other way round
pub all-noted : (ms : List Member) → All IsNoted ms → first_to_note None ms ≡ None
all-noted [] all = refl
all-noted (m ∷ ms) all =
    ap (λ (noted : Bool). first_to_note (cond noted None (Some m)) ms) (All-head IsNoted m ms all)
    ∙ all-noted ms (All-tail IsNoted m ms all)

-- the first of a place, noted
set-noted : (place : ℕ) (ms : List Member) (m : Member) → slice_get ms (position_or_len (is_at place) ms) ≡ Some m →
    slice_set ms (position_or_len (is_at place) ms) (record m { noted = true }) ≡ noted_at place ms
set-noted place [] m is = refl
set-noted place (x ∷ xs) m is = by (is_at place x) is (set-noted place xs m) where
  by : (here : Bool) → slice_get (x ∷ xs) (cond (not here) (1 + position_or_len (is_at place) xs) 0) ≡ Some m →
      (slice_get xs (position_or_len (is_at place) xs) ≡ Some m →
      slice_set xs (position_or_len (is_at place) xs) (record m { noted = true }) ≡ noted_at place xs) →
      slice_set (x ∷ xs) (cond (not here) (1 + position_or_len (is_at place) xs) 0) (record m { noted = true })
      ≡ cond here (record x { noted = true } ∷ xs) (x ∷ noted_at place xs)
  by true is rest = ap (λ (y : Member). record y { noted = true } ∷ xs) (sym (same_Some x m is))
  by false is rest =
      let next : 1 + position_or_len (is_at place) xs ≡ suc (position_or_len (is_at place) xs) = omega arith in
      ap (λ (n : ℕ). slice_set (x ∷ xs) n (record m { noted = true })) next
      ∙ ap (λ (l : List Member). x ∷ l) (rest (ap (slice_get (x ∷ xs)) (sym next) ∙ is))

pub note-set : (place : ℕ) (ms : List Member) (at : ℕ) (m : Member) → position (is_at place) ms ≡ Some at →
    slice_get ms at ≡ Some m →
    slice_set ms at (record m { noted = true }) ≡ noted_at place ms
note-set place ms at m found is =
    let first = first-place (is_at place) ms at found in
    ap (λ (n : ℕ). slice_set ms n (record m { noted = true })) first
    ∙ set-noted place ms m (ap (slice_get ms) (sym first) ∙ is)

-- what is found at the first place that passes
pub found-at : (place : ℕ) (ms : List Member) (at : ℕ) (other : Member) → position (is_at place) ms ≡ Some at →
    slice_get ms at ≡ Some (get_or ms at other)
found-at place ms at other found = slice_get-get_or ms at other (position-Some (is_at place) ms at other found).0

pub found-is : (place : ℕ) (ms : List Member) (at : ℕ) (other : Member) → position (is_at place) ms ≡ Some at →
    Some (get_or ms at other) ≡ find (is_at place) ms
found-is place ms at other found = sym (find-place (is_at place) ms at found ∙ found-at place ms at other found)

-- where nobody is registered at a place, nobody is noted
pub none-at : (place : ℕ) (ms : List Member) → position (is_at place) ms ≡ None → noted_at place ms ≡ ms
none-at place ms none = lost ms (find-none (is_at place) ms none) where
  lost : (ms : List Member) → find (is_at place) ms ≡ None → noted_at place ms ≡ ms
  lost [] none = refl
  lost (m ∷ ms) none = by (is_at place m) none (lost ms) where
    by : (here : Bool) → cond here (Some m) (find (is_at place) ms) ≡ None →
        (find (is_at place) ms ≡ None → noted_at place ms ≡ ms) →
        cond here (record m { noted = true } ∷ ms) (m ∷ noted_at place ms) ≡ m ∷ ms
    by true none rest = absurd (cc)
    by false none rest = ap (λ (l : List Member). m ∷ l) (rest none)
