-- The first word of a line is no longer than the line.
use Rattle.std.proofs.Common.{◌≡◌, ℕ, ◌≤◌, Bool, List, [], ◌∷◌, length, refl, sym, ap, inl, inr, ◌∙◌, arith}
use Rattle.std.specs.List.{slice_split, onto_first}
use Rattle.std.proofs.lemmas.Bool.{cases_Bool, cond-true, cond-false}

onto_within : (x : ℕ) (xs : List ℕ) (parts : List (List ℕ)) (first : List ℕ) (more : List (List ℕ)) →
    ((part : List ℕ) (rest : List (List ℕ)) → parts ≡ part ∷ rest → length part ≤ length xs) →
    onto_first x parts ≡ first ∷ more → length first ≤ length (x ∷ xs)
onto_within x xs [] first more within is =
    let same : x ∷ [] ≡ first = cc in
    omega (arith, ap length same)
onto_within x xs (part ∷ rest) first more within is =
    let same : x ∷ part ≡ first = cc in
    let shorter = within part rest refl in
    omega (arith, ap length same)

-- what stands before the first separator is no longer than the text
pub first_within : (p : ℕ → Bool) (text first : List ℕ) (more : List (List ℕ)) → slice_split p text ≡ first ∷ more →
    length first ≤ length text
first_within p [] first more is =
    let same : [] ≡ first = cc in
    omega (arith, ap length same)
first_within p (x ∷ xs) first more is = elim (cases_Bool (p x)) [
  | inl passes ↦
      let there = sym (cond-true (p x) ([] ∷ slice_split p xs) (onto_first x (slice_split p xs)) passes) ∙ is in
      let same : [] ≡ first = cc in
      omega (arith, ap length same)
  | inr fails ↦
      onto_within x xs (slice_split p xs) first more (first_within p xs)
      (sym (cond-false (p x) ([] ∷ slice_split p xs) (onto_first x (slice_split p xs)) fails) ∙ is)
]
