-- Lists of numbers in order, each of which stands there once.
use Rattle.std.proofs.Common.{◌≡◌, ◌⊎◌, ℕ, zero, suc, ◌+◌, ◌<◌, ◌≤◌, Bool, not, eqb, Some, List, [], ◌∷◌, length, map, get_or, refl, sym, ap, subst, ◌∙◌, inl, inr, arith}
use Rattle.std.specs.List.{filter, range_with_len, slice_get}
use Rattle.std.proofs.lemmas.Bool.{cases_eq, cases_lt, cond-true, cond-false, eq-eqb, ne_eqb}
use Rattle.std.proofs.lemmas.List.{length-map}
use Rattle.std.proofs.lemmas.List.Filters.{length-filter_both}
use Rattle.std.proofs.lemmas.List.FromFn.{get_or-range_with_len}
use Rattle.std.proofs.lemmas.Option.{slice_get_within, get_or_from_slice_get}
use Rattle.zk_base.specs.Order.{by_key, Ascends}
use Rattle.zk_base.proofs.Lists.{All-at}
use Rattle.zk_base.proofs.Order.{map-by_key}
use Rattle.zk_trace.proofs.Stable.{of_key, of_key-by_key, ascends-by_key}
use Rattle.zk_failures.specs.PlaceFailure.{IsNumbered}
use Rattle.zk_failures.proofs.PlacedLists.{IsIn, in-cases, in-long, in-filter, filter-map}

-- a list with each of so many numbers has as many elements
pub pigeonhole : (n from : ℕ) (xs : List ℕ) → ((k : ℕ) → from ≤ k → k < from + n → IsIn xs k) → n ≤ length xs
pigeonhole zero from xs all = omega arith
pigeonhole (suc n) from xs all =
    let own : ℕ → Bool = λ x. eqb from x in
    let other : ℕ → Bool = λ x. not (eqb from x) in
    let parts = length-filter_both own other (λ x. refl) xs in
    let first = in-long (filter own xs) from (in-filter own xs from (all from (omega arith) (omega arith)) (eq-eqb from from refl)) in
    let rest = pigeonhole n (from + 1) (filter other xs) (λ k above below. in-filter other xs k (all k (omega arith) (omega arith)) (ap not (ne_eqb from k (λ same. omega arith)))) in
    omega arith

-- one above the first is one of the rest
past-first : (x k : ℕ) (xs : List ℕ) → IsIn (x ∷ xs) k → x < k → IsIn xs k
past-first x k xs is above = by (in-cases x k xs is) where
  by : ((x ≡ k) ⊎ IsIn xs k) → IsIn xs k
  by (inl same) = absurd (omega arith)
  by (inr rest) = rest

-- none is below the first
first-lowest : (x k : ℕ) (xs : List ℕ) → Ascends (λ (n : ℕ). n) (x ∷ xs) → IsIn (x ∷ xs) k → x ≤ k
first-lowest x k xs up is = by (in-cases x k xs is) where
  by : ((x ≡ k) ⊎ IsIn xs k) → x ≤ k
  by (inl same) = omega arith
  by (inr rest) = All-at (λ (y : ℕ). x ≤ y) xs rest.0 k up.0 rest.1

-- an ascending list with each number below its length is these numbers
pub numbered : (xs : List ℕ) (from : ℕ) → Ascends (λ (n : ℕ). n) xs → ((k : ℕ) → from ≤ k → k < from + length xs → IsIn xs k) → xs ≡ range_with_len from (length xs)
numbered [] from up all = refl
numbered (x ∷ xs) from up all =
    let low = first-lowest x from xs up (all from (omega arith) (omega arith)) in
    let not_lower : x < from → suc (length xs) ≤ length xs =
    λ lower. pigeonhole (suc (length xs)) from xs (λ k above below. past-first x k xs (all k above below) (omega arith)) in
    let here : x ≡ from = by (cases_lt x from) low not_lower in
    ap (λ (n : ℕ). n ∷ xs) here
    ∙ ap (λ (l : List ℕ). from ∷ l) (numbered xs (from + 1) up.1 (λ k above below. past-first x k xs (all k (omega arith) (omega arith)) (omega arith)))
  where
    by : ((x < from) ⊎ (from ≤ x)) → x ≤ from → (x < from → suc (length xs) ≤ length xs) → x ≡ from
    by (inl lower) low never = let long = never lower in absurd (omega arith)
    by (inr above) low never = omega arith

-- in such a list each number is its own place
pub numbered-at : (xs : List ℕ) (k n : ℕ) → IsNumbered xs → slice_get xs k ≡ Some n → n ≡ k
numbered-at xs k n is there =
    let within = slice_get_within xs k n there in
    let value : get_or xs k 0 ≡ n = get_or_from_slice_get xs k n 0 there in
    let same : get_or xs k 0 ≡ 0 + k = ap (λ (l : List ℕ). get_or l k 0) is ∙ get_or-range_with_len 0 (length xs) k 0 within in
    omega arith

-- the keys of a list by key don't fall
pub keys-ascend : {A : Type 0} (key : A → ℕ) (xs : List A) → Ascends (λ (n : ℕ). n) (map key (by_key key xs))
keys-ascend key xs = subst (Ascends (λ (n : ℕ). n)) (sym (map-by_key key (λ (n : ℕ). n) xs)) (ascends-by_key (λ (n : ℕ). n) (map key xs))

-- a number stands once in a range
range-none : (k from n : ℕ) → k < from → filter (λ x. eqb k x) (range_with_len from n) ≡ []
range-none k from zero below = refl
range-none k from (suc n) below =
    let rest = filter (λ x. eqb k x) (range_with_len (from + 1) n) in
    cond-false (eqb k from) (from ∷ rest) rest (ne_eqb k from (λ same. omega arith)) ∙ range-none k (from + 1) n (omega arith)

range-once : (k from n : ℕ) → length (filter (λ x. eqb k x) (range_with_len from n)) ≤ 1
range-once k from zero = omega arith
range-once k from (suc n) = by (cases_eq k from) (range-once k (from + 1) n) where
  by : ((k ≡ from) ⊎ (k ≡ from → ⊥)) → length (filter (λ x. eqb k x) (range_with_len (from + 1) n)) ≤ 1 → length (filter (λ x. eqb k x) (range_with_len from (suc n))) ≤ 1
  by (inl same) once =
      let long : length (filter (λ x. eqb k x) (range_with_len from (suc n))) ≡ 1 =
      ap length (cond-true (eqb k from) (from ∷ filter (λ x. eqb k x) (range_with_len (from + 1) n)) (filter (λ x. eqb k x) (range_with_len (from + 1) n)) (eq-eqb k from same)
      ∙ ap (λ (l : List ℕ). from ∷ l) (range-none k (from + 1) n (omega arith))) in
      omega arith
  by (inr other) once =
      subst (λ (l : List ℕ). length l ≤ 1)
      (sym (cond-false (eqb k from) (from ∷ filter (λ x. eqb k x) (range_with_len (from + 1) n)) (filter (λ x. eqb k x) (range_with_len (from + 1) n)) (ne_eqb k from other))) once

-- where the keys are the numbers of their places, each is that of one at most
pub key-once : {A : Type 0} (key : A → ℕ) (xs : List A) (k : ℕ) → IsNumbered (map key (by_key key xs)) → length (of_key key k xs) ≤ 1
key-once {A} key xs k is =
    let sorted = by_key key xs in
    let same : length (of_key key k sorted) ≡ length (filter (λ x. eqb k x) (map key sorted)) =
    sym (ap length (filter-map (λ (x : ℕ). eqb k x) key sorted) ∙ length-map (of_key key k sorted) key) in
    let numbers = range-once k 0 (length (map key sorted)) in
    let once : length (filter (λ x. eqb k x) (map key sorted)) ≤ 1 = subst (λ (l : List ℕ). length (filter (λ x. eqb k x) l) ≤ 1) (sym is) numbers in
    subst (λ (l : List A). length l ≤ 1) (of_key-by_key key k xs) (subst (λ (n : ℕ). n ≤ 1) (sym same) once)

-- lists of numbers are the same or aren't
pub same-or-not : (xs ys : List ℕ) → (xs ≡ ys) ⊎ (xs ≡ ys → ⊥)
same-or-not [] [] = inl refl
same-or-not [] (y ∷ ys) = inr (λ same. absurd (cc))
same-or-not (x ∷ xs) [] = inr (λ same. absurd (cc))
same-or-not (x ∷ xs) (y ∷ ys) = both (cases_eq x y) (same-or-not xs ys) where
  both : ((x ≡ y) ⊎ (x ≡ y → ⊥)) → ((xs ≡ ys) ⊎ (xs ≡ ys → ⊥)) → (x ∷ xs ≡ y ∷ ys) ⊎ (x ∷ xs ≡ y ∷ ys → ⊥)
  both (inl first) (inl rest) = inl (ap (λ (n : ℕ). n ∷ xs) first ∙ ap (λ (l : List ℕ). y ∷ l) rest)
  both (inl first) (inr other) = inr (λ same. other (cc))
  both (inr other) rest = inr (λ same. other (cc))
