-- Lists with one element more, and first places.
use Rattle.std.proofs.Common.{◌≡◌, ℕ, zero, suc, ◌+◌, ◌<◌, Bool, true, false, cond, eqb, None, Some, List, [], ◌∷◌, ◌++◌, length, set, slice_get, count_by, is_some, refl, sym, ap, ◌∙◌, ⊎_elim, arith}
use Rattle.std.proofs.lemmas.Bool.{cases_eq, eq-eqb, ne_eqb, cond-false}
use Rattle.std.proofs.lemmas.List.Sums.{sum_by-append}
use Rattle.std.proofs.lemmas.Iterator.Adapters.{position_from-zero}
use Rattle.std.specs.List.{position, position_from}

-- an element of the list before
pub slice_get-append_left : {X : Type 0} (xs ys : List X) (k : ℕ) → k < length xs → slice_get (xs ++ ys) k ≡ slice_get xs k
slice_get-append_left [] ys k h = absurd (omega arith)
slice_get-append_left (x ∷ xs) ys zero h = refl
slice_get-append_left (x ∷ xs) ys (suc k) h = slice_get-append_left xs ys k (omega arith)

-- the new element
pub slice_get-push : {X : Type 0} (xs : List X) (y : X) → slice_get (xs ++ y ∷ []) (length xs) ≡ Some y
slice_get-push [] y = refl
slice_get-push (x ∷ xs) y = slice_get-push xs y

-- a count over a list, from its first element on
pub count_by-cons : {X : Type 0} (p : X → Bool) (x : X) (xs : List X) → count_by p (x ∷ xs) ≡ cond (p x) 1 0 + count_by p xs
count_by-cons p x xs = sum_by-append (λ y. cond (p y) 1 0) (x ∷ []) xs ∙ ap (λ n. n + count_by p xs) (omega arith)

-- a count with one element more
pub count_by-push : {X : Type 0} (p : X → Bool) (xs : List X) (y : X) → count_by p (xs ++ y ∷ []) ≡ count_by p xs + cond (p y) 1 0
count_by-push p xs y = sum_by-append (λ x. cond (p x) 1 0) xs (y ∷ []) ∙ ap (λ n. count_by p xs + n) (omega arith)

from-push : {X : Type 0} (p : X → Bool) (n : ℕ) (xs : List X) (y : X) → position_from p n (xs ++ y ∷ []) ≡ cond (is_some (position_from p n xs)) (position_from p n xs) (cond (p y) (Some (n + length xs)) None)
from-push p n [] y = ap (λ k. cond (p y) (Some k) None) (omega arith)
from-push p n (x ∷ xs) y = step (p x) (from-push p (n + 1) xs y ∙ ap (λ k. cond (is_some (position_from p (n + 1) xs)) (position_from p (n + 1) xs) (cond (p y) (Some k) None)) (omega arith)) where
  step : (b : Bool) → position_from p (n + 1) (xs ++ y ∷ []) ≡ cond (is_some (position_from p (n + 1) xs)) (position_from p (n + 1) xs) (cond (p y) (Some (n + length (x ∷ xs))) None)
      → cond b (Some n) (position_from p (n + 1) (xs ++ y ∷ [])) ≡ cond (is_some (cond b (Some n) (position_from p (n + 1) xs))) (cond b (Some n) (position_from p (n + 1) xs)) (cond (p y) (Some (n + length (x ∷ xs))) None)
  step true e = refl
  step false e = e

-- the first place, with one element more
pub position-push : {X : Type 0} (p : X → Bool) (xs : List X) (y : X) → position p (xs ++ y ∷ []) ≡ cond (is_some (position p xs)) (position p xs) (cond (p y) (Some (length xs)) None)
position-push p xs y =
    position_from-zero p (xs ++ y ∷ []) ∙ from-push p 0 xs y
    ∙ ap (λ o. cond (is_some o) o (cond (p y) (Some (0 + length xs)) None)) (sym (position_from-zero p xs))
    ∙ ap (λ k. cond (is_some (position p xs)) (position p xs) (cond (p y) (Some k) None)) (omega arith)

-- an element after a write
pub slice_get-set : {X : Type 0} (xs : List X) (i : ℕ) (y : X) (k : ℕ) → i < length xs → slice_get (set xs i y) k ≡ cond (eqb i k) (Some y) (slice_get xs k)
slice_get-set [] i y k h = absurd (omega arith)
slice_get-set (x ∷ xs) zero y zero h = refl
slice_get-set (x ∷ xs) zero y (suc k) h = sym (cond-false (eqb zero (suc k)) (Some y) (slice_get xs k) (ne_eqb zero (suc k) (λ e. omega arith)))
slice_get-set (x ∷ xs) (suc i) y zero h = sym (cond-false (eqb (suc i) zero) (Some y) (Some x) (ne_eqb (suc i) zero (λ e. omega arith)))
slice_get-set (x ∷ xs) (suc i) y (suc k) h = slice_get-set xs i y k (omega arith) ∙ ap (λ b. cond b (Some y) (slice_get xs k)) (eqb-suc i k) where
  eqb-suc : (i k : ℕ) → eqb i k ≡ eqb (suc i) (suc k)
  eqb-suc i k = ⊎_elim (λ e. eq-eqb i k e ∙ sym (eq-eqb (suc i) (suc k) (ap suc e))) (λ ne. ne_eqb i k ne ∙ sym (ne_eqb (suc i) (suc k) (λ e. ne (omega arith)))) (cases_eq i k)
