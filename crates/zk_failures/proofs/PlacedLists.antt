-- Elements of lists: of one behind another, of what a test keeps, of a list by key, of a mapped one.
use Rattle.std.proofs.Common.{◌≡◌, ◌⊎◌, ℕ, zero, suc, ◌<◌, ◌≤◌, Bool, true, false, cond, Some, List, [], ◌∷◌, ◌++◌, length, map, All, eqb, refl, sym, ap, subst, ◌∙◌, inl, inr, arith}
use Rattle.std.specs.List.{AllByRecursion, filter, slice_get}
use Rattle.std.specs.Option.{option_map}
use Rattle.std.proofs.lemmas.Bool.{cond-true, eq-eqb}
use Rattle.std.proofs.lemmas.List.Elements.{All-filter, All-from_recursion, filter_passes}
use Rattle.std.proofs.lemmas.Option.{same_Some, none-some, slice_get-map, slice_get-get_or, slice_get_within}
use Rattle.zk_base.specs.Order.{by_key}
use Rattle.zk_base.proofs.Lists.{All-at}
use Rattle.zk_base.proofs.Order.{All-by_key}
use Rattle.zk_worker.proofs.Lists.{there-longer}
use Rattle.zk_trace.proofs.Stable.{of_key-by_key}

-- it is an element of the list
abbrev pub IsIn : {A : Type 0} → List A → A → Type 0
IsIn xs x = (place : ℕ) × (slice_get xs place ≡ Some x)

module _ {A : Type 0} where
  -- the first one is one, and so is each of the rest
  pub in-first : (x : A) (xs : List A) → IsIn (x ∷ xs) x
  in-first x xs = (zero, refl)

  pub in-rest : (x y : A) (xs : List A) → IsIn xs y → IsIn (x ∷ xs) y
  in-rest x y xs is = (suc is.0, is.1)

  -- an element is the first one, or one of the rest
  pub in-cases : (x y : A) (xs : List A) → IsIn (x ∷ xs) y → (x ≡ y) ⊎ IsIn xs y
  in-cases x y xs is = at is.0 is.1 where
    at : (k : ℕ) → slice_get (x ∷ xs) k ≡ Some y → (x ≡ y) ⊎ IsIn xs y
    at zero there = inl (same_Some x y there)
    at (suc k) there = inr (k, there)

  -- an element of either of two lists is one of both
  pub in-front : (xs ys : List A) (x : A) → IsIn xs x → IsIn (xs ++ ys) x
  in-front xs ys x is = (is.0, there-longer xs ys is.0 x is.1)

  pub in-back : (xs ys : List A) (x : A) → IsIn ys x → IsIn (xs ++ ys) x
  in-back [] ys x is = is
  in-back (y ∷ xs) ys x is = in-rest y x (xs ++ ys) (in-back xs ys x is)

  -- what holds of each holds of one
  pub each-in : (P : A → Type 0) (xs : List A) (x : A) → AllByRecursion P xs → IsIn xs x → P x
  each-in P xs x all is = All-at P xs is.0 x (All-from_recursion P xs all) is.1

  -- what holds of all there can be holds of each
  pub each-of : (P : A → Type 0) → ((x : A) → P x) → (xs : List A) → AllByRecursion P xs
  each-of P all [] = tt
  each-of P all (x ∷ xs) = (all x, each-of P all xs)

  -- what holds of each element holds of all
  pub each-from : (P : A → Type 0) (xs : List A) → ((x : A) → IsIn xs x → P x) → AllByRecursion P xs
  each-from P [] holds = tt
  each-from P (x ∷ xs) holds = (holds x (in-first x xs), each-from P xs (λ y is. holds y (in-rest x y xs is)))

  -- what follows from what holds of each
  pub each-weaker : (P Q : A → Type 0) → ((x : A) → P x → Q x) → (xs : List A) → AllByRecursion P xs → AllByRecursion Q xs
  each-weaker P Q follows [] all = tt
  each-weaker P Q follows (x ∷ xs) all = (follows x all.0, each-weaker P Q follows xs all.1)

  -- there is one at each place below the length
  pub there-is : (xs : List A) (k : ℕ) → k < length xs → (x : A) × (slice_get xs k ≡ Some x)
  there-is [] k within = absurd (omega arith)
  there-is (x ∷ xs) zero within = (x, refl)
  there-is (x ∷ xs) (suc k) within = there-is xs k (omega arith)

  -- each of a list is one of it
  all-in : (xs : List A) → All (IsIn xs) xs
  all-in xs k d within = (k, slice_get-get_or xs k d within)

  -- where there is one the list isn't empty
  pub in-long : (xs : List A) (x : A) → IsIn xs x → 1 ≤ length xs
  in-long xs x is = let within = slice_get_within xs is.0 x is.1 in omega arith

  -- what a test keeps are the elements that pass
  pub from-filter : (test : A → Bool) (xs : List A) (x : A) → IsIn (filter test xs) x → IsIn xs x × (test x ≡ true)
  from-filter test xs x is = (
    All-at (IsIn xs) (filter test xs) is.0 x (All-filter test (IsIn xs) xs (all-in xs)) is.1,
    All-at (λ (y : A). test y ≡ true) (filter test xs) is.0 x (filter_passes test xs) is.1,
  )

  pub in-filter : (test : A → Bool) (xs : List A) (x : A) → IsIn xs x → test x ≡ true → IsIn (filter test xs) x
  in-filter test [] x is passes = absurd (none-some x is.1)
  in-filter test (y ∷ xs) x is passes = by (in-cases y x xs is) (λ rest. in-filter test xs x rest passes) where
    kept : (b : Bool) → IsIn (filter test xs) x → IsIn (cond b (y ∷ filter test xs) (filter test xs)) x
    kept true rest = in-rest y x (filter test xs) rest
    kept false rest = rest

    by : ((y ≡ x) ⊎ IsIn xs x) → (IsIn xs x → IsIn (filter test xs) x) → IsIn (filter test (y ∷ xs)) x
    by (inl same) further =
        subst (λ (l : List A). IsIn l x) (sym (cond-true (test y) (y ∷ filter test xs) (filter test xs) (ap test same ∙ passes)))
        (subst (λ (z : A). IsIn (z ∷ filter test xs) x) (sym same) (in-first x (filter test xs)))
    by (inr rest) further = kept (test y) (further rest)

  -- a list by key has the same elements
  pub from-by_key : (key : A → ℕ) (xs : List A) (x : A) → IsIn (by_key key xs) x → IsIn xs x
  from-by_key key xs x is = All-at (IsIn xs) (by_key key xs) is.0 x (All-by_key (IsIn xs) key xs (all-in xs)) is.1

  pub in-by_key : (key : A → ℕ) (xs : List A) (x : A) → IsIn xs x → IsIn (by_key key xs) x
  in-by_key key xs x is =
      let same : A → Bool = λ a. eqb (key x) (key a) in
      (from-filter same (by_key key xs) x
      (subst (λ (l : List A). IsIn l x) (sym (of_key-by_key key (key x) xs)) (in-filter same xs x is (eq-eqb (key x) (key x) refl)))).0

  -- what a function makes of an element is one of what it makes of all
  pub in-map : {B : Type 0} (f : A → B) (xs : List A) (x : A) → IsIn xs x → IsIn (map f xs) (f x)
  in-map f xs x is = (is.0, slice_get-map f xs is.0 ∙ ap (option_map f) is.1)

  -- a test of what a function makes keeps what it makes of those that pass
  pub filter-map : {B : Type 0} (test : B → Bool) (f : A → B) (xs : List A) → filter test (map f xs) ≡ map f (filter (λ x. test (f x)) xs)
  filter-map test f [] = refl
  filter-map {B = B} test f (x ∷ xs) = by (test (f x)) (filter-map test f xs) where
    by : (b : Bool) → filter test (map f xs) ≡ map f (filter (λ x. test (f x)) xs) →
        cond b (f x ∷ filter test (map f xs)) (filter test (map f xs)) ≡ map f (cond b (x ∷ filter (λ x. test (f x)) xs) (filter (λ x. test (f x)) xs))
    by true rest = ap (λ (l : List B). f x ∷ l) rest
    by false rest = rest

  -- two that pass a test are two of those that it keeps
  pub two-pass : (test : A → Bool) (xs : List A) (i j : ℕ) (x y : A) → i < j → slice_get xs i ≡ Some x → slice_get xs j ≡ Some y → test x ≡ true → test y ≡ true →
      2 ≤ length (filter test xs)
  two-pass test [] i j x y below at_x at_y is_x is_y = absurd (none-some x at_x)
  two-pass test (z ∷ xs) i zero x y below at_x at_y is_x is_y = absurd (omega arith)
  two-pass test (z ∷ xs) zero (suc j) x y below at_x at_y is_x is_y =
      let kept = cond-true (test z) (z ∷ filter test xs) (filter test xs) (ap test (same_Some z x at_x) ∙ is_x) in
      let other = in-long (filter test xs) y (in-filter test xs y (j, at_y) is_y) in
      let long : length (filter test (z ∷ xs)) ≡ suc (length (filter test xs)) = ap length kept in
      omega arith
  two-pass test (z ∷ xs) (suc i) (suc j) x y below at_x at_y is_x is_y =
      let rest = two-pass test xs i j x y (omega arith) at_x at_y is_x is_y in
      let longer = no-shorter (test z) in
      omega arith
    where
      no-shorter : (b : Bool) → length (filter test xs) ≤ length (cond b (z ∷ filter test xs) (filter test xs))
      no-shorter true = omega arith
      no-shorter false = omega arith
