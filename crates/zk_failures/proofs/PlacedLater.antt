-- What holds of each element of a list and each later one.
use Rattle.std.proofs.Common.{◌≡◌, ℕ, zero, suc, ◌<◌, Some, List, [], ◌∷◌, ◌++◌, map, refl, subst, arith}
use Rattle.std.specs.List.{AllByRecursion, slice_get}
use Rattle.std.proofs.lemmas.Option.{same_Some, none-some}
use Rattle.zk_trace.proofs.LooksFit.{all-append}
use Rattle.zk_failures.proofs.PlacedLists.{in-front, each-in, each-from}

-- it holds of each element and each later one
abbrev pub Later : {A : Type 0} → (A → A → Type 0) → List A → Type 0
Later R [] = Unit {0}
Later R (x ∷ xs) = AllByRecursion (R x) xs × Later R xs

module _ {A : Type 0} where
  -- of two parts it holds in each
  pub later-front : (R : A → A → Type 0) (xs ys : List A) → Later R (xs ++ ys) → Later R xs
  later-front R [] ys all = tt
  later-front R (x ∷ xs) ys all = (each-from (R x) xs (λ y is. each-in (R x) (xs ++ ys) y all.0 (in-front xs ys y is)), later-front R xs ys all.1)

  pub later-back : (R : A → A → Type 0) (xs ys : List A) → Later R (xs ++ ys) → Later R ys
  later-back R [] ys all = all
  later-back R (x ∷ xs) ys all = later-back R xs ys all.1

  -- and so in both, where it holds of those of the first and those of the second
  pub later-join : (R : A → A → Type 0) (xs ys : List A) → Later R xs → Later R ys → AllByRecursion (λ x. AllByRecursion (R x) ys) xs → Later R (xs ++ ys)
  later-join R [] ys first second across = second
  later-join R (x ∷ xs) ys first second across = (all-append (R x) xs ys first.0 across.0, later-join R xs ys first.1 second across.1)

  -- by places
  pub later-from : (R : A → A → Type 0) (xs : List A) → ((i j : ℕ) (x y : A) → i < j → slice_get xs i ≡ Some x → slice_get xs j ≡ Some y → R x y) → Later R xs
  later-from R [] holds = tt
  later-from R (x ∷ xs) holds = (
    each-from (R x) xs (λ y is. holds zero (suc is.0) x y (omega arith) refl is.1),
    later-from R xs (λ i j a b below at_a at_b. holds (suc i) (suc j) a b (omega arith) at_a at_b),
  )

  pub later-at : (R : A → A → Type 0) (xs : List A) → Later R xs → (i j : ℕ) (x y : A) → i < j → slice_get xs i ≡ Some x → slice_get xs j ≡ Some y → R x y
  later-at R [] all i j x y below at_x at_y = absurd (none-some x at_x)
  later-at R (z ∷ zs) all i zero x y below at_x at_y = absurd (omega arith)
  later-at R (z ∷ zs) all zero (suc j) x y below at_x at_y = subst (λ (a : A). R a y) (same_Some z x at_x) (each-in (R z) zs y all.0 (j, at_y))
  later-at R (z ∷ zs) all (suc i) (suc j) x y below at_x at_y = later-at R zs all.1 i j x y (omega arith) at_x at_y

  -- what follows from two that hold
  pub later-both : (P Q R : A → A → Type 0) → ((x y : A) → P x y → Q x y → R x y) → (xs : List A) → Later P xs → Later Q xs → Later R xs
  later-both P Q R follows xs first second =
      later-from R xs (λ i j x y below at_x at_y. follows x y (later-at P xs first i j x y below at_x at_y) (later-at Q xs second i j x y below at_x at_y))

  -- of what a function makes of each
  pub later-map : {B : Type 0} (R : A → A → Type 0) (f : B → A) (xs : List B) → Later (λ x y. R (f x) (f y)) xs → Later R (map f xs)
  later-map R f [] all = tt
  later-map {B} R f (x ∷ xs) all = (mapped xs all.0, later-map R f xs all.1) where
    mapped : (ys : List B) → AllByRecursion (λ y. R (f x) (f y)) ys → AllByRecursion (R (f x)) (map f ys)
    mapped [] all = tt
    mapped (y ∷ ys) all = (all.0, mapped ys all.1)

  pub later-unmap : {B : Type 0} (R : A → A → Type 0) (f : B → A) (xs : List B) → Later R (map f xs) → Later (λ x y. R (f x) (f y)) xs
  later-unmap R f [] all = tt
  later-unmap {B} R f (x ∷ xs) all = (unmapped xs all.0, later-unmap R f xs all.1) where
    unmapped : (ys : List B) → AllByRecursion (R (f x)) (map f ys) → AllByRecursion (λ y. R (f x) (f y)) ys
    unmapped [] all = tt
    unmapped (y ∷ ys) all = (all.0, unmapped ys all.1)
