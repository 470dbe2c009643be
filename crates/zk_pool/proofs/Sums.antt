-- Sums over a list of which one place is known, or two.
use Rattle.std.proofs.Common.{◌≡◌, ◌≢◌, ℕ, zero, suc, ◌+◌, ◌≤◌, List, [], ◌∷◌, set, sum_by, refl, sym, ap, arith}
use Rattle.std.proofs.lemmas.List.Sums.{sum_by-cons}
use mathlib.Core.Option.{some, some-injective, some-ne-none}
use lib.ListN.{get_elem?}

module _ {A : Type 0} where
  -- what was set stands there
  pub at-set : (l : List A) (i : ℕ) (a b : A) → get_elem? l i ≡ some a → get_elem? (set l i b) i ≡ some b
  at-set [] i a b at = absurd (some-ne-none a (sym at))
  at-set (x ∷ xs) zero a b at = refl
  at-set (x ∷ xs) (suc i) a b at = at-set xs i a b at

module _ {A : Type 0} (f : A → ℕ) where
  -- one place is set
  pub sum-set : (l : List A) (i : ℕ) (a b : A) → get_elem? l i ≡ some a → sum_by f (set l i b) + f a ≡ sum_by f l + f b
  sum-set [] i a b at = absurd (some-ne-none a (sym at))
  sum-set (x ∷ xs) zero a b at =
      let same = ap f (some-injective x a at) in
      omega (arith, sum_by-cons f x xs, sum_by-cons f b xs)
  sum-set (x ∷ xs) (suc i) a b at =
      let rest = sum-set xs i a b at in
      omega (arith, sum_by-cons f x xs, sum_by-cons f x (set xs i b))

  -- one place is in the sum
  pub sum-one : (l : List A) (i : ℕ) (a : A) → get_elem? l i ≡ some a → f a ≤ sum_by f l
  sum-one [] i a at = absurd (some-ne-none a (sym at))
  sum-one (x ∷ xs) zero a at = let same = ap f (some-injective x a at) in omega (arith, sum_by-cons f x xs)
  sum-one (x ∷ xs) (suc i) a at = let rest = sum-one xs i a at in omega (arith, sum_by-cons f x xs)

  -- two places are in the sum
  pub sum-two : (l : List A) (i j : ℕ) (a b : A) → get_elem? l i ≡ some a → get_elem? l j ≡ some b → j ≢ i →
      f a + f b ≤ sum_by f l
  sum-two [] i j a b at at' differ = absurd (some-ne-none a (sym at))
  sum-two (x ∷ xs) zero zero a b at at' differ = absurd (differ refl)
  sum-two (x ∷ xs) zero (suc j) a b at at' differ =
      let same = ap f (some-injective x a at) in
      let rest = sum-one xs j b at' in
      omega (arith, sum_by-cons f x xs)
  sum-two (x ∷ xs) (suc i) zero a b at at' differ =
      let same = ap f (some-injective x b at') in
      let rest = sum-one xs i a at in
      omega (arith, sum_by-cons f x xs)
  sum-two (x ∷ xs) (suc i) (suc j) a b at at' differ =
      let rest = sum-two xs i j a b at at' (λ same. differ (ap suc same)) in
      omega (arith, sum_by-cons f x xs)

module _ {A : Type 0} (f g : A → ℕ) where
  sum-none : (l : List A) → ((j : ℕ) (b : A) → get_elem? l j ≡ some b → g b ≡ 0 → f b ≡ 0) → sum_by g l ≡ 0 → sum_by f l ≡ 0
  sum-none [] none all = refl
  sum-none (x ∷ xs) none all =
      let first = sum_by-cons f x xs in
      let second = sum_by-cons g x xs in
      let here = none 0 x refl (omega arith) in
      let rest = sum-none xs (λ j b at. none (suc j) b at) (omega arith) in
      omega arith

  -- where one place has all of the second sum, it has all of the first
  pub sum-only : (l : List A) (i : ℕ) (a : A) → ((j : ℕ) (b : A) → get_elem? l j ≡ some b → g b ≡ 0 → f b ≡ 0) →
      get_elem? l i ≡ some a → sum_by g l ≡ g a → sum_by f l ≡ f a
  sum-only [] i a none at all = absurd (some-ne-none a (sym at))
  sum-only (x ∷ xs) zero a none at all =
      let first = sum_by-cons f x xs in
      let second = sum_by-cons g x xs in
      let same = ap f (some-injective x a at) in
      let same' = ap g (some-injective x a at) in
      let rest = sum-none xs (λ j b at'. none (suc j) b at') (omega arith) in
      omega arith
  sum-only (x ∷ xs) (suc i) a none at all =
      let first = sum_by-cons f x xs in
      let second = sum_by-cons g x xs in
      let one = sum-one g xs i a at in
      let here = none 0 x refl (omega arith) in
      let rest = sum-only xs i a (λ j b at'. none (suc j) b at') at (omega arith) in
      omega arith
