-- What is at the places of a list that grows, or in which one place is written.
use Rattle.std.proofs.Common.{◌≡◌, ◌≢◌, ◌⊎◌, ℕ, zero, suc, ◌+◌, ◌<◌, ◌||◌, Bool, true, false, Some, List, [], ◌∷◌, ◌++◌, length, map, set, take, reverse, get_or, inl, inr, refl, sym, ap, subst, ◌∙◌, arith}
use Rattle.std.specs.List.{slice_get, list_any, sum_by, AllZip}
use Rattle.std.specs.Option.{option_map}
use Rattle.std.proofs.lemmas.Bool.{or_parts}
use Rattle.std.proofs.lemmas.Option.{slice_get_within, get_or_from_slice_get}
use Rattle.std.proofs.lemmas.List.{take_all, take_more, take_more_set, length-set, reverse-append}
use Rattle.std.proofs.lemmas.List.Sums.{sum_by-set}

or-false : (a b : Bool) → a ≡ false → (a || b) ≡ b
or-false a b is = ap (λ c. c || b) is

or-none : (a b : Bool) → b ≡ false → (a || b) ≡ a
or-none true b is = refl
or-none false b is = is

module _ {A : Type 0} where
  -- a list from its end, before and after its last element is written
  pub last-written : (xs : List A) (i : ℕ) (x y : A) → length xs ≡ i + 1 → x ≡ get_or xs i x →
      (below : List A) × (reverse xs ≡ x ∷ below) × (reverse (set xs i y) ≡ y ∷ below)
  last-written xs i x y long is =
      let front = take i xs in
      let before : xs ≡ front ++ x ∷ [] = sym (take_all (i + 1) xs (omega arith)) ∙ take_more xs i x (omega arith)
      ∙ ap (λ (a : A). front ++ a ∷ []) (sym is) in
      let after : set xs i y ≡ front ++ y ∷ [] = sym (take_all (i + 1) (set xs i y) (omega (arith, length-set xs i y)))
      ∙ take_more_set xs i y (omega arith) in
      (reverse front, ap reverse before ∙ reverse-append front (x ∷ []), ap reverse after ∙ reverse-append front (y ∷ []))

  -- what is at a place of a list with one element more
  pub at-end : (xs : List A) (y x : A) (p : ℕ) → slice_get (xs ++ y ∷ []) p ≡ Some x → (slice_get xs p ≡ Some x) ⊎ ((p ≡ length xs) × (y ≡ x))
  at-end [] y x zero is = inr (refl, cc)
  at-end [] y x (suc p) is = absurd (cc)
  at-end (z ∷ zs) y x zero is = inl is
  at-end (z ∷ zs) y x (suc p) is = further p (at-end zs y x p is)
    where
      further : (p : ℕ) → (slice_get zs p ≡ Some x) ⊎ ((p ≡ length zs) × (y ≡ x)) → (slice_get zs p ≡ Some x) ⊎ ((suc p ≡ suc (length zs)) × (y ≡ x))
      further p (inl there) = inl there
      further p (inr both) = inr (ap suc both.0, both.1)

  -- what is at a place stays there in a longer list
  pub there-longer : (xs ys : List A) (p : ℕ) (x : A) → slice_get xs p ≡ Some x → slice_get (xs ++ ys) p ≡ Some x
  there-longer [] ys p x is = absurd (cc)
  there-longer (y ∷ xs) ys zero x is = is
  there-longer (y ∷ xs) ys (suc p) x is = there-longer xs ys p x is

  -- what is at a place of the front of a list
  pub at-front : (xs ys : List A) (p : ℕ) → p < length xs → slice_get (xs ++ ys) p ≡ slice_get xs p
  at-front [] ys p below = absurd (omega arith)
  at-front (x ∷ xs) ys zero below = refl
  at-front (x ∷ xs) ys (suc p) below = at-front xs ys p (omega arith)

  -- what is put behind a list is at the place of its length
  pub there-behind : (xs : List A) (x : A) → slice_get (xs ++ x ∷ []) (length xs) ≡ Some x
  there-behind [] x = refl
  there-behind (y ∷ xs) x = there-behind xs x

  -- what is at a place of a mapped list comes from what is at that place
  pub there-mapped : {B : Type 0} (f : A → B) (xs : List A) (p : ℕ) (b : B) → slice_get (map f xs) p ≡ Some b → (a : A) × (slice_get xs p ≡ Some a) × (f a ≡ b)
  there-mapped f [] p b is = absurd (cc)
  there-mapped f (x ∷ xs) zero b is = (x, refl, cc)
  there-mapped f (x ∷ xs) (suc p) b is = there-mapped f xs p b is

  -- what is known of a place stays so in a longer list
  pub known-longer : {B : Type 0} (f : A → B) (xs ys : List A) (p : ℕ) (b : B) → option_map f (slice_get xs p) ≡ Some b → option_map f (slice_get (xs ++ ys) p) ≡ Some b
  known-longer f [] ys p b is = absurd (cc)
  known-longer f (x ∷ xs) ys zero b is = is
  known-longer f (x ∷ xs) ys (suc p) b is = known-longer f xs ys p b is

  -- what is known of a place of a longer list was known before, or is known of what was added
  pub known-back : {B : Type 0} (f : A → B) (xs ys : List A) (p : ℕ) (b : B) → option_map f (slice_get (xs ++ ys) p) ≡ Some b →
      (option_map f (slice_get xs p) ≡ Some b) ⊎ ((k : ℕ) × (p ≡ length xs + k) × (option_map f (slice_get ys k) ≡ Some b))
  known-back f [] ys p b is = inr (p, omega arith, is)
  known-back f (x ∷ xs) ys zero b is = inl is
  known-back f (x ∷ xs) ys (suc p) b is = further p (known-back f xs ys p b is)
    where
      further : (p : ℕ) → (option_map f (slice_get xs p) ≡ Some b) ⊎ ((k : ℕ) × (p ≡ length xs + k) × (option_map f (slice_get ys k) ≡ Some b)) →
          (option_map f (slice_get xs p) ≡ Some b) ⊎ ((k : ℕ) × (suc p ≡ suc (length xs) + k) × (option_map f (slice_get ys k) ≡ Some b))
      further p (inl there) = inl there
      further p (inr added) = inr (added.0, omega (arith, added.1), added.2)

  -- what is known of a place is known of what is there
  pub known-there : {B : Type 0} (f : A → B) (xs : List A) (p : ℕ) (b : B) → option_map f (slice_get xs p) ≡ Some b → (x : A) × (slice_get xs p ≡ Some x) × (f x ≡ b)
  known-there f [] p b is = absurd (cc)
  known-there f (x ∷ xs) zero b is = (x, refl, cc)
  known-there f (x ∷ xs) (suc p) b is = known-there f xs p b is

  -- what is at a place after a write: what was written, or what was there at another place
  pub slice_get-set : (xs : List A) (p q : ℕ) (v x : A) → slice_get (set xs p v) q ≡ Some x → ((q ≡ p) × (x ≡ v)) ⊎ ((q ≢ p) × (slice_get xs q ≡ Some x))
  slice_get-set [] p q v x is = absurd (cc)
  slice_get-set (y ∷ ys) zero zero v x is = inl (refl, cc)
  slice_get-set (y ∷ ys) zero (suc q) v x is = inr (λ same. absurd (omega arith), is)
  slice_get-set (y ∷ ys) (suc p) zero v x is = inr (λ same. absurd (omega arith), is)
  slice_get-set (y ∷ ys) (suc p) (suc q) v x is = further p q (slice_get-set ys p q v x is)
    where
      further : (p q : ℕ) → ((q ≡ p) × (x ≡ v)) ⊎ ((q ≢ p) × (slice_get ys q ≡ Some x)) → ((suc q ≡ suc p) × (x ≡ v)) ⊎ ((suc q ≢ suc p) × (slice_get ys q ≡ Some x))
      further p q (inl both) = inl (ap suc both.0, both.1)
      further p q (inr both) = inr (λ same. both.0 (omega arith), both.1)

  -- what is written there already changes nothing
  pub set-there : (xs : List A) (p : ℕ) (x : A) → slice_get xs p ≡ Some x → set xs p x ≡ xs
  set-there [] p x is = refl
  set-there (y ∷ ys) zero x is = let same : y ≡ x = cc in ap (λ (z : A). z ∷ ys) (sym same)
  set-there (y ∷ ys) (suc p) x is = ap (λ (zs : List A). y ∷ zs) (set-there ys p x is)

  -- where no element passes, each fails
  pub none-passes : (test : A → Bool) (xs : List A) (p : ℕ) (x : A) → list_any test xs ≡ false → slice_get xs p ≡ Some x → test x ≡ false
  none-passes test [] p x none is = absurd (cc)
  none-passes test (y ∷ ys) zero x none is = let same : y ≡ x = cc in subst (λ (z : A). test z ≡ false) same (or_parts (test y) (list_any test ys) none).0
  none-passes test (y ∷ ys) (suc p) x none is = none-passes test ys p x (or_parts (test y) (list_any test ys) none).1 is

  -- where no element passes, some does after a write exactly where the written one does
  pub any-set : (test : A → Bool) (xs : List A) (p : ℕ) (v : A) → list_any test xs ≡ false → p < length xs → list_any test (set xs p v) ≡ test v
  any-set test [] p v none within = absurd (omega arith)
  any-set test (y ∷ ys) zero v none within = or-none (test v) (list_any test ys) (or_parts (test y) (list_any test ys) none).1
  any-set test (y ∷ ys) (suc p) v none within =
      let both = or_parts (test y) (list_any test ys) none in
      or-false (test y) (list_any test (set ys p v)) both.0 ∙ any-set test ys p v both.1 (omega arith)

  -- a sum after a write
  pub sum-set : (f : A → ℕ) (xs : List A) (p : ℕ) (x v : A) → slice_get xs p ≡ Some x → sum_by f (set xs p v) + f x ≡ sum_by f xs + f v
  sum-set f xs p x v is =
      subst (λ (y : A). sum_by f (set xs p v) + f y ≡ sum_by f xs + f v) (get_or_from_slice_get xs p x x is)
      (sum_by-set f xs p v x (slice_get_within xs p x is))

-- what relates two lists place by place
module _ {A B : Type 0} where
  pub zip-weaker : (R Q : A → B → Type 0) (xs : List A) (ys : List B) → ((x : A) (y : B) → R x y → Q x y) → AllZip R xs ys → AllZip Q xs ys
  zip-weaker R Q [] [] so is = tt
  zip-weaker R Q [] (y ∷ ys) so is = absurd is
  zip-weaker R Q (x ∷ xs) [] so is = absurd is
  zip-weaker R Q (x ∷ xs) (y ∷ ys) so is = (so x y is.0, zip-weaker R Q xs ys so is.1)

  pub zip-push : (R : A → B → Type 0) (xs : List A) (ys : List B) (x : A) (y : B) → AllZip R xs ys → R x y → AllZip R (xs ++ x ∷ []) (ys ++ y ∷ [])
  zip-push R [] [] x y is last = (last, tt)
  zip-push R [] (z ∷ ys) x y is last = absurd is
  zip-push R (z ∷ xs) [] x y is last = absurd is
  zip-push R (a ∷ xs) (b ∷ ys) x y is last = (is.0, zip-push R xs ys x y is.1 last)
