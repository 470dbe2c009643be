-- Elements at places of lists.
use Rattle.std.proofs.Common.{◌≡◌, ℕ, zero, suc, ◌<◌, ◌⊎◌, inl, inr, ⊎_elim, Some, All, List, [], ◌∷◌, ◌++◌, get_or, drop, length, set, slice_get, take, append-nil, refl, ap, ◌∙◌, arith}
use Rattle.std.proofs.lemmas.List.{drop_all, take_all}
use Rattle.std.proofs.lemmas.Option.{same_Some, slice_get-get_or}

module _ {A : Type 0} where
  -- there is one at each place
  pub at-some : (xs : List A) (k : ℕ) → k < length xs → (x : A) × (slice_get xs k ≡ Some x)
  at-some [] k within = absurd (omega arith)
  at-some (x ∷ xs) zero within = (x, refl)
  at-some (x ∷ xs) (suc k) within = at-some xs k (omega arith)

  -- what stands at a place stands there with more behind it
  pub at-front : (xs ys : List A) (x : A) (k : ℕ) → slice_get xs k ≡ Some x → slice_get (xs ++ ys) k ≡ Some x
  at-front [] ys x k at = absurd (cc)
  at-front (y ∷ xs) ys x zero at = at
  at-front (y ∷ xs) ys x (suc k) at = at-front xs ys x k at

  -- and what comes behind them stands at their length
  pub at-end : (xs ys : List A) (y : A) → slice_get (xs ++ y ∷ ys) (length xs) ≡ Some y
  at-end [] ys y = refl
  at-end (x ∷ xs) ys y = at-end xs ys y

  -- with one more, it is one of those before, or the last one
  pub at-last : (xs : List A) (y x : A) (k : ℕ) → slice_get (xs ++ y ∷ []) k ≡ Some x →
      (slice_get xs k ≡ Some x) ⊎ ((k ≡ length xs) × (y ≡ x))
  at-last [] y x zero at = inr (refl, same_Some y x at)
  at-last [] y x (suc k) at = absurd (cc)
  at-last (z ∷ zs) y x zero at = inl at
  at-last (z ∷ zs) y x (suc k) at = ⊎_elim (λ before. inl before) (λ last. inr (ap suc last.0, last.1)) (at-last zs y x k at)

  -- where another is put
  pub at-set : (xs : List A) (i : ℕ) (y : A) → i < length xs → slice_get (set xs i y) i ≡ Some y
  at-set [] i y within = absurd (omega arith)
  at-set (x ∷ xs) zero y within = refl
  at-set (x ∷ xs) (suc i) y within = at-set xs i y (omega arith)

  -- and elsewhere
  pub at-unset : (xs : List A) (i k : ℕ) (y : A) → (k ≡ i → ⊥) → slice_get (set xs i y) k ≡ slice_get xs k
  at-unset [] i k y differ = refl
  at-unset (x ∷ xs) zero zero y differ = absurd (differ refl)
  at-unset (x ∷ xs) zero (suc k) y differ = refl
  at-unset (x ∷ xs) (suc i) zero y differ = refl
  at-unset (x ∷ xs) (suc i) (suc k) y differ = at-unset xs i k y (λ same. differ (ap suc same))

  -- nothing stands at a place of an empty list
  pub none-at : (x : A) (k : ℕ) → slice_get [] k ≡ Some x → ⊥
  none-at x k at = absurd (cc)

  -- what holds at each place holds of each
  pub All-places : (P : A → Type 0) (xs : List A) → ((k : ℕ) (x : A) → slice_get xs k ≡ Some x → P x) → All P xs
  All-places P xs each k d within = each k (get_or xs k d) (slice_get-get_or xs k d within)

-- what a slice of all of a list leaves there is the slice
pub written-back : {A : Type 0} (old new : List A) (n : ℕ) → length new ≡ length old → n ≡ length old →
    take n (new ++ drop (length new) old) ≡ new
written-back {A} old new n long many =
    ap (λ (l : List A). take n (new ++ l)) (drop_all (length new) old (omega (arith, long)))
    ∙ ap (λ (l : List A). take n l) (append-nil new) ∙ take_all n new (omega (arith, long, many))
