-- Counts of what passes a test in a list.
use Rattle.std.proofs.Common.{◌≡◌, ℕ, zero, suc, ◌+◌, ◌<◌, ◌≤◌, Bool, true, false, cond, List, [], ◌∷◌, ◌++◌, length, take, map, All, get_or, refl, sym, ap, subst, ◌∙◌, inl, inr, arith}
use Rattle.std.specs.List.{count_by}
use Rattle.std.specs.List.Sorted.{IsPermutation}
use Rattle.std.proofs.lemmas.Bool.{cases_Bool}
use Rattle.std.proofs.lemmas.List.{take-take, take_all}
use Rattle.std.proofs.lemmas.List.Elements.{All-head, All-tail}
use Rattle.std.proofs.lemmas.List.Sorted.{sum_by-IsPermutation}
use Rattle.std.proofs.lemmas.List.Sums.{sum_by-cons, sum_by-append, sum_by-take-le, count_by_more_yes}

module _ {X : Type 0} (p : X → Bool) where
  pub count-cons : (x : X) (xs : List X) → count_by p (x ∷ xs) ≡ cond (p x) 1 0 + count_by p xs
  count-cons x xs = sum_by-cons (λ (x : X). cond (p x) 1 0) x xs

  pub count-yes : (x : X) (xs : List X) → p x ≡ true → count_by p (x ∷ xs) ≡ suc (count_by p xs)
  count-yes x xs holds =
      let more : (n : ℕ) → 1 + n ≡ suc n = λ (n : ℕ). omega arith in
      count-cons x xs ∙ ap (λ (b : Bool). cond b 1 0 + count_by p xs) holds ∙ more (count_by p xs)

  pub count-no : (x : X) (xs : List X) → p x ≡ false → count_by p (x ∷ xs) ≡ count_by p xs
  count-no x xs fails =
      let none : (n : ℕ) → 0 + n ≡ n = λ (n : ℕ). omega arith in
      count-cons x xs ∙ ap (λ (b : Bool). cond b 1 0 + count_by p xs) fails ∙ none (count_by p xs)

  pub count-append : (xs ys : List X) → count_by p (xs ++ ys) ≡ count_by p xs + count_by p ys
  count-append xs ys = sum_by-append (λ (x : X). cond (p x) 1 0) xs ys

  pub count-permutation : (xs ys : List X) → IsPermutation xs ys → count_by p ys ≡ count_by p xs
  count-permutation xs ys same = sum_by-IsPermutation (λ (x : X). cond (p x) 1 0) xs ys same

  -- an element that passes with so many before it
  abbrev pub CountedAt : List X → ℕ → X → Type 0
  CountedAt xs c d =
      (k : ℕ) × (k < length xs) × (p (get_or xs k d) ≡ true) × (count_by p (take k xs) ≡ c)

  counted-yes : (x : X) (xs : List X) (c : ℕ) (d : X) → p x ≡ true → CountedAt xs c d → CountedAt (x ∷ xs) (suc c) d
  counted-yes x xs c d holds (k, within, passes, count) =
      (suc k, omega arith, passes, count-yes x (take k xs) holds ∙ ap suc count)

  counted-no : (x : X) (xs : List X) (c : ℕ) (d : X) → p x ≡ false → CountedAt xs c d → CountedAt (x ∷ xs) c d
  counted-no x xs c d fails (k, within, passes, count) =
      (suc k, omega arith, passes, count-no x (take k xs) fails ∙ count)

  -- there is one for each number below the count
  pub counted-at : (xs : List X) (c : ℕ) (d : X) → c < count_by p xs → CountedAt xs c d
  counted-at [] c d below = absurd (omega arith)
  counted-at (x ∷ xs) zero d below = elim (cases_Bool (p x)) [
    | inl holds ↦ (0, omega arith, holds, refl)
    | inr fails ↦ counted-no x xs zero d fails (counted-at xs zero d (let same = count-no x xs fails in omega arith))
  ]
  counted-at (x ∷ xs) (suc c) d below = elim (cases_Bool (p x)) [
    | inl holds ↦ counted-yes x xs c d holds (counted-at xs c d (let same = count-yes x xs holds in omega arith))
    | inr fails ↦ counted-no x xs (suc c) d fails (counted-at xs (suc c) d (let same = count-no x xs fails in omega arith))
  ]

  -- more pass before a later place, where the one at the earlier passes
  pub count-below : (xs : List X) (j k : ℕ) (d : X) → j < k → j < length xs → p (get_or xs j d) ≡ true →
      count_by p (take j xs) < count_by p (take k xs)
  count-below xs j k d before within passes =
      let one = count_by_more_yes p xs j d within passes in
      let all : count_by p (take (j + 1) xs) ≤ count_by p (take k xs) =
      subst (λ (ys : List X). count_by p ys ≤ count_by p (take k xs)) (take-take (j + 1) k xs (omega arith))
      (sum_by-take-le {X = X} (λ (x : X). cond (p x) 1 0) (take k xs) (j + 1)) in
      omega arith

  pub count-within : (xs : List X) (j : ℕ) (d : X) → j < length xs → p (get_or xs j d) ≡ true →
      count_by p (take j xs) < count_by p xs
  count-within xs j d within passes =
      subst (λ (ys : List X). count_by p (take j xs) < count_by p ys) (take_all (length xs) xs (omega arith))
      (count-below xs j (length xs) d within within passes)

  -- none is counted where none passes
  pub count-none : (xs : List X) → All (λ x. p x ≡ false) xs → count_by p xs ≡ 0
  count-none [] none = refl
  count-none (x ∷ xs) none =
      count-no x xs (All-head (λ (x : X). p x ≡ false) x xs none)
      ∙ count-none xs (All-tail (λ (x : X). p x ≡ false) x xs none)

  pub count-map : {Y : Type 0} (f : Y → X) (ys : List Y) → count_by p (map f ys) ≡ count_by (λ y. p (f y)) ys
  count-map f [] = refl
  count-map {Y = Y} f (y ∷ ys) =
      count-cons (f y) (map f ys)
      ∙ ap (λ (n : ℕ). cond (p (f y)) 1 0 + n) (count-map f ys)
      ∙ sym (sum_by-cons (λ (y : Y). cond (p (f y)) 1 0) y ys)

-- two tests
module _ {X : Type 0} (p q : X → Bool) where
  cond-le : (a b : Bool) → (a ≡ true → b ≡ true) → cond a 1 0 ≤ cond b 1 0
  cond-le true true both = omega arith
  cond-le true false both = let never = both refl in absurd (cc)
  cond-le false true both = omega arith
  cond-le false false both = omega arith

  pub count-le : (xs : List X) → All (λ x. p x ≡ true → q x ≡ true) xs → count_by p xs ≤ count_by q xs
  count-le [] each = omega arith
  count-le (x ∷ xs) each =
      let P : X → Type 0 = λ (x : X). p x ≡ true → q x ≡ true in
      let first = cond-le (p x) (q x) (All-head P x xs each) in
      let rest = count-le xs (All-tail P x xs each) in
      let one = count-cons p x xs in
      let other = count-cons q x xs in
      omega arith
