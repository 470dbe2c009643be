-- Views at their places, and sums over them.
use Rattle.std.proofs.Common.{◌≡◌, ℕ, zero, suc, ◌+◌, ◌*◌, ◌<◌, ◌≤◌, List, [], ◌∷◌, length, set, get_or, sum_by, refl, sym, ap, arith}
use Rattle.std.proofs.Math.Nat.{mul-add}
use Rattle.std.proofs.lemmas.List.Sums.{sum_by-cons, sum_by-set, get_or-le-sum_by}
use mathlib.Core.Option.{some, some-injective, some-ne-none}
use lib.ListN.{get_elem?}

module _ {A : Type 0} where
  at-within : (l : List A) (i : ℕ) (a : A) → get_elem? l i ≡ some a → i < length l
  at-within [] i a at = absurd (some-ne-none a (sym at))
  at-within (x ∷ xs) zero a at = omega arith
  at-within (x ∷ xs) (suc i) a at = let behind = at-within xs i a at in omega arith

  pub at-get_or : (l : List A) (i : ℕ) (a d : A) → get_elem? l i ≡ some a → get_or l i d ≡ a
  at-get_or [] i a d at = absurd (some-ne-none a (sym at))
  at-get_or (x ∷ xs) zero a d at = some-injective x a at
  at-get_or (x ∷ xs) (suc i) a d at = at-get_or xs i a d at

  pub at-set_there : (l : List A) (i : ℕ) (a b : A) → get_elem? l i ≡ some a → get_elem? (set l i b) i ≡ some b
  at-set_there [] i a b at = absurd (some-ne-none a (sym at))
  at-set_there (x ∷ xs) zero a b at = refl
  at-set_there (x ∷ xs) (suc i) a b at = at-set_there xs i a b at

  pub sum-set : (f : A → ℕ) (l : List A) (i : ℕ) (a b : A) → get_elem? l i ≡ some a →
      sum_by f (set l i b) + f a ≡ sum_by f l + f b
  sum-set f l i a b at =
      let is = ap f (at-get_or l i a a at) in
      let moved = sum_by-set f l i b a (at-within l i a at) in
      omega arith

  pub sum-one : (f : A → ℕ) (l : List A) (i : ℕ) (a : A) → get_elem? l i ≡ some a → f a ≤ sum_by f l
  sum-one f l i a at =
      let is = ap f (at-get_or l i a a at) in
      let le = get_or-le-sum_by f l i a (at-within l i a at) in
      omega arith

  -- each is at most k times the other
  pub sum-times : (k : ℕ) (f g : A → ℕ) (l : List A) → ((j : ℕ) (a : A) → get_elem? l j ≡ some a → f a ≤ k * g a) →
      sum_by f l ≤ k * sum_by g l
  sum-times k f g [] each = omega arith
  sum-times k f g (x ∷ xs) each =
      let here = each 0 x refl in
      let rest = sum-times k f g xs (λ j a at. each (suc j) a at) in
      let first = sum_by-cons f x xs in
      let second = sum_by-cons g x xs in
      let spread = mul-add k (g x) (sum_by g xs) in
      omega (arith, ap (λ n. k * n) second)

  pub sum-below : (f g : A → ℕ) (l : List A) → ((a : A) → f a ≤ g a) → sum_by f l ≤ sum_by g l
  sum-below f g [] each = omega arith
  sum-below f g (x ∷ xs) each =
      let here = each x in
      let rest = sum-below f g xs each in
      let first = sum_by-cons f x xs in
      let second = sum_by-cons g x xs in
      omega arith

  -- where only one has any of the second, the first is nothing elsewhere
  pub sum-only : (f g : A → ℕ) (l : List A) (i : ℕ) (a : A) →
      ((j : ℕ) (b : A) → get_elem? l j ≡ some b → g b ≡ 0 → f b ≡ 0) → get_elem? l i ≡ some a → sum_by g l ≡ g a →
      sum_by f l ≡ f a
  sum-only f g [] i a none at all = absurd (some-ne-none a (sym at))
  sum-only f g (x ∷ xs) zero a none at all =
      let first = sum_by-cons f x xs in
      let second = sum_by-cons g x xs in
      let same = ap f (some-injective x a at) in
      let same' = ap g (some-injective x a at) in
      let rest = sum-none xs (λ j b at'. none (suc j) b at') (omega arith) in
      omega arith
    where
      sum-none : (l : List A) → ((j : ℕ) (b : A) → get_elem? l j ≡ some b → g b ≡ 0 → f b ≡ 0) → sum_by g l ≡ 0 → sum_by f l ≡ 0
      sum-none [] none all = refl
      sum-none (y ∷ ys) none all =
          let first = sum_by-cons f y ys in
          let second = sum_by-cons g y ys in
          let here = none 0 y refl (omega arith) in
          let rest = sum-none ys (λ j b at. none (suc j) b at) (omega arith) in
          omega arith
  sum-only f g (x ∷ xs) (suc i) a none at all =
      let first = sum_by-cons f x xs in
      let second = sum_by-cons g x xs in
      let one = sum-one g xs i a at in
      let here = none 0 x refl (omega arith) in
      let rest = sum-only f g xs i a (λ j b at'. none (suc j) b at') at (omega arith) in
      omega arith
