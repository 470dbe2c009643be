-- A list without its first element that passes, and how many pass.
use Rattle.std.proofs.Common.{◌≡◌, ℕ, suc, ◌+◌, ◌<◌, ◌≤◌, All, Bool, true, false, not, cond, ltb, ◌||◌, Option, Some, None, option_map, List, [], ◌∷◌, length, slice_get, is_some, refl, ap, sym, subst, ◌∙◌, arith}
use Rattle.std.specs.List.{Contains, find, position, position_or_len, remove, insert, list_any, count_by}
use Rattle.std.proofs.lemmas.Bool.Decides.{nat_tests}
use Rattle.std.proofs.lemmas.Grind.{common_steps}
use Rattle.std.proofs.lemmas.List.Elements.{All-nil, All-cons, All-head, All-tail, All-weaker, All-contains, All-contains_itself}
use Rattle.std.proofs.lemmas.List.Folds.{find_at}
use Rattle.std.proofs.lemmas.List.Sums.{sum_by-cons}
use Rattle.std.proofs.lemmas.Option.{same_Some, slice_get_past}
use Rattle.zk_base.specs.Lists.{without_first, put_before}

-- a search that finds nothing, and one that finds a place
place_past : (n long : ℕ) → cond (ltb n long) (Some n) None ≡ None → long ≤ n
place_past n long none = grind (arith, nat_tests)

place_within : (n place long : ℕ) → cond (ltb n long) (Some n) None ≡ Some place → (n ≡ place) × (place < long)
place_within n place long found = grind (arith, nat_tests)

remove_past : {A : Type 0} (n : ℕ) (xs : List A) → length xs ≤ n → remove xs n ≡ xs
remove_past n xs past = grind (arith, common_steps)

-- one where it is so
abbrev pub one_if : Bool → ℕ
one_if b = cond b 1 0

module _ {A : Type 0} (p : A → Bool) where
  remove-first-at : (x : A) (xs : List A) (b : Bool) (n : ℕ) (rest : List A) → remove xs n ≡ rest →
      remove (x ∷ xs) (cond (not b) (1 + n) 0) ≡ cond b xs (x ∷ rest)
  remove-first-at x xs true n rest same = refl
  remove-first-at x xs false n rest same =
      let next : 1 + n ≡ suc n = omega arith in
      ap (remove (x ∷ xs)) next ∙ ap (λ (xs : List A). x ∷ xs) same

  remove-first : (xs : List A) → remove xs (position_or_len p xs) ≡ without_first p xs
  remove-first [] = refl
  remove-first (x ∷ xs) = remove-first-at x xs (p x) (position_or_len p xs) (without_first p xs) (remove-first xs)

  -- the first place that passes, taken out
  pub remove-place : (xs : List A) (place : ℕ) → position p xs ≡ Some place → remove xs place ≡ without_first p xs
  remove-place xs place found = ap (remove xs) (sym ((place_within (position_or_len p xs) place (length xs) found).0))
      ∙ remove-first xs

  -- where no place passes, nothing is taken out
  pub without-none : (xs : List A) → position p xs ≡ None → without_first p xs ≡ xs
  without-none xs none =
      let past = place_past (position_or_len p xs) (length xs) none in
      sym (remove-first xs) ∙ remove_past (position_or_len p xs) xs past

  most-at : (x : A) (xs : List A) (b : Bool) → position_or_len p xs ≤ length xs →
      cond (not b) (1 + position_or_len p xs) 0 ≤ suc (length xs)
  most-at x xs true below = omega arith
  most-at x xs false below = omega arith

  most : (xs : List A) → position_or_len p xs ≤ length xs
  most [] = omega arith
  most (x ∷ xs) = most-at x xs (p x) (most xs)

  -- the first place that passes, or the end
  pub first-place : (xs : List A) (place : ℕ) → position p xs ≡ Some place → place ≡ position_or_len p xs
  first-place xs place found = sym ((place_within (position_or_len p xs) place (length xs) found).0)

  pub no-place : (xs : List A) → position p xs ≡ None → length xs ≡ position_or_len p xs
  no-place xs none =
      let past = place_past (position_or_len p xs) (length xs) none in
      let below = most xs in
      omega arith

  -- what is found is taken out
  pub find-place : (xs : List A) (place : ℕ) → position p xs ≡ Some place → find p xs ≡ slice_get xs place
  find-place xs place found = find_at p xs ∙ ap (slice_get xs) (place_within (position_or_len p xs) place (length xs) found).0

  pub find-none : (xs : List A) → position p xs ≡ None → find p xs ≡ None
  find-none xs none = find_at p xs ∙ slice_get_past xs (position_or_len p xs) (place_past (position_or_len p xs) (length xs) none)

  any-find-at : (x : A) (xs : List A) (b : Bool) → list_any p xs ≡ is_some (find p xs) →
      (b || list_any p xs) ≡ is_some (cond b (Some x) (find p xs))
  any-find-at x xs true rest = refl
  any-find-at x xs false rest = rest

  -- one passes where one is found
  pub any-find : (xs : List A) → list_any p xs ≡ is_some (find p xs)
  any-find [] = refl
  any-find (x ∷ xs) = any-find-at x xs (p x) (any-find xs)

  is_some-map : {B : Type 0} (f : A → B) (o : Option A) → is_some o ≡ is_some (option_map f o)
  is_some-map f None = refl
  is_some-map f (Some x) = refl

  -- there is something of the first that passes just where one passes
  pub any-find_of : {B : Type 0} (f : A → B) (xs : List A) → list_any p xs ≡ is_some (option_map f (find p xs))
  any-find_of f xs = any-find xs ∙ is_some-map f (find p xs)

  insert-before-at : (x y : A) (ys : List A) (b : Bool) (n : ℕ) (rest : List A) → insert ys n x ≡ rest →
      insert (y ∷ ys) (cond (not b) (1 + n) 0) x ≡ cond b (x ∷ y ∷ ys) (y ∷ rest)
  insert-before-at x y ys true n rest same = refl
  insert-before-at x y ys false n rest same =
      let next : 1 + n ≡ suc n = omega arith in
      ap (λ (k : ℕ). insert (y ∷ ys) k x) next ∙ ap (λ (xs : List A). y ∷ xs) same

  -- what is put in at the first place that passes
  pub insert-before : (x : A) (xs : List A) → insert xs (position_or_len p xs) x ≡ put_before p x xs
  insert-before x [] = refl
  insert-before x (y ∷ ys) = insert-before-at x y ys (p y) (position_or_len p ys) (put_before p x ys) (insert-before x ys)

  length-without-at : (x : A) (xs : List A) (b : Bool) →
      (list_any p xs ≡ true → 1 + length (without_first p xs) ≡ length xs) → (b || list_any p xs) ≡ true →
      1 + length (cond b xs (x ∷ without_first p xs)) ≡ suc (length xs)
  length-without-at x xs true rest some = omega arith
  length-without-at x xs false rest some = let long = rest some in omega arith

  -- where one passes, one is taken out
  pub length-without : (xs : List A) → list_any p xs ≡ true → 1 + length (without_first p xs) ≡ length xs
  length-without [] some = absurd (cc)
  length-without (x ∷ xs) some = length-without-at x xs (p x) (length-without xs) some

  length-less-at : (x : A) (xs : List A) (b : Bool) → length (without_first p xs) ≤ length xs →
      length (cond b xs (x ∷ without_first p xs)) ≤ suc (length xs)
  length-less-at x xs true less = omega arith
  length-less-at x xs false less = omega arith

  -- it isn't longer
  pub length-less : (xs : List A) → length (without_first p xs) ≤ length xs
  length-less [] = omega arith
  length-less (x ∷ xs) = length-less-at x xs (p x) (length-less xs)

  count-without-at : (x : A) (xs : List A) (b : Bool) → p x ≡ b →
      (list_any p xs ≡ true → 1 + count_by p (without_first p xs) ≡ count_by p xs) → (b || list_any p xs) ≡ true →
      1 + count_by p (cond b xs (x ∷ without_first p xs)) ≡ count_by p (x ∷ xs)
  count-without-at x xs true is rest some =
      let here : one_if (p x) ≡ 1 = ap one_if is in
      omega (arith, sum_by-cons (λ (y : A). one_if (p y)) x xs)
  count-without-at x xs false is rest some =
      let counted = rest some in
      omega (arith, sum_by-cons (λ (y : A). one_if (p y)) x xs, sum_by-cons (λ (y : A). one_if (p y)) x (without_first p xs))

  -- one less passes
  pub count-without : (xs : List A) → list_any p xs ≡ true → 1 + count_by p (without_first p xs) ≡ count_by p xs
  count-without [] some = absurd (cc)
  count-without (x ∷ xs) some = count-without-at x xs (p x) refl (count-without xs) some

  count-none-at : (x : A) (xs : List A) (b : Bool) → p x ≡ b → (list_any p xs ≡ false → count_by p xs ≡ 0) →
      (b || list_any p xs) ≡ false → count_by p (x ∷ xs) ≡ 0
  count-none-at x xs true is rest none = absurd (cc)
  count-none-at x xs false is rest none =
      let here : one_if (p x) ≡ 0 = ap one_if is in
      let behind = rest none in
      omega (arith, sum_by-cons (λ (y : A). one_if (p y)) x xs)

  -- where none passes, none is counted
  pub count-none : (xs : List A) → list_any p xs ≡ false → count_by p xs ≡ 0
  count-none [] none = refl
  count-none (x ∷ xs) none = count-none-at x xs (p x) refl (count-none xs) none

  some-of : (xs : List A) (b : Bool) → list_any p xs ≡ b → 0 < count_by p xs → b ≡ true
  some-of xs true is some = refl
  some-of xs false is some = let none = count-none xs is in absurd (omega arith)

  -- where some are counted, one passes
  pub any-counted : (xs : List A) → 0 < count_by p xs → list_any p xs ≡ true
  any-counted xs some = some-of xs (list_any p xs) refl some

  -- and where one passes, some are counted
  pub counted-any : (xs : List A) → list_any p xs ≡ true → 0 < count_by p xs
  counted-any xs some = let one = count-without xs some in omega arith

  found-at : (x y : A) (xs : List A) (b : Bool) → p x ≡ b → (find p xs ≡ Some y → p y ≡ true) →
      cond b (Some x) (find p xs) ≡ Some y → p y ≡ true
  found-at x y xs true is rest found = subst (λ (z : A). p z ≡ true) (same_Some x y found) is
  found-at x y xs false is rest found = rest found

  -- what is found passes
  pub found-passes : (xs : List A) (y : A) → find p xs ≡ Some y → p y ≡ true
  found-passes [] y found = absurd (cc)
  found-passes (x ∷ xs) y found = found-at x y xs (p x) refl (found-passes xs y) found

  lost-at : (x : A) (xs : List A) (b : Bool) → (find p xs ≡ None → without_first p xs ≡ xs) →
      cond b (Some x) (find p xs) ≡ None → cond b xs (x ∷ without_first p xs) ≡ x ∷ xs
  lost-at x xs true rest none = absurd (cc)
  lost-at x xs false rest none = ap (λ (l : List A). x ∷ l) (rest none)

  -- where nothing is found, nothing is taken out
  pub without-lost : (xs : List A) → find p xs ≡ None → without_first p xs ≡ xs
  without-lost [] none = refl
  without-lost (x ∷ xs) none = lost-at x xs (p x) (without-lost xs) none

module _ {A : Type 0} (p q : A → Bool) where
  count-found-at : (x y : A) (xs : List A) (b : Bool) →
      (find p xs ≡ Some y → count_by q xs ≡ one_if (q y) + count_by q (without_first p xs)) →
      cond b (Some x) (find p xs) ≡ Some y → count_by q (x ∷ xs) ≡ one_if (q y) + count_by q (cond b xs (x ∷ without_first p xs))
  count-found-at x y xs true rest found =
      let same : one_if (q x) ≡ one_if (q y) = ap (λ (z : A). one_if (q z)) (same_Some x y found) in
      omega (arith, sum_by-cons (λ (z : A). one_if (q z)) x xs)
  count-found-at x y xs false rest found =
      let further = rest found in
      omega (arith, sum_by-cons (λ (z : A). one_if (q z)) x xs, sum_by-cons (λ (z : A). one_if (q z)) x (without_first p xs))

  -- what is found is taken out, and counted no more
  pub count-found : (xs : List A) (y : A) → find p xs ≡ Some y → count_by q xs ≡ one_if (q y) + count_by q (without_first p xs)
  count-found [] y found = absurd (cc)
  count-found (x ∷ xs) y found = count-found-at x y xs (p x) (count-found xs y) found

  count-put-at : (x y : A) (ys : List A) (b : Bool) → count_by q (put_before p x ys) ≡ one_if (q x) + count_by q ys →
      count_by q (cond b (x ∷ y ∷ ys) (y ∷ put_before p x ys)) ≡ one_if (q x) + count_by q (y ∷ ys)
  count-put-at x y ys true rest = sum_by-cons (λ (z : A). one_if (q z)) x (y ∷ ys)
  count-put-at x y ys false rest =
      omega (arith, sum_by-cons (λ (z : A). one_if (q z)) y ys, sum_by-cons (λ (z : A). one_if (q z)) y (put_before p x ys))

  -- what is put in is counted
  pub count-put_before : (x : A) (xs : List A) → count_by q (put_before p x xs) ≡ one_if (q x) + count_by q xs
  count-put_before x [] = sum_by-cons (λ (z : A). one_if (q z)) x []
  count-put_before x (y ∷ ys) = count-put-at x y ys (p y) (count-put_before x ys)

module _ {A : Type 0} (q : A → Bool) where
  counted-each : (xs : List A) → All (λ (x : A). q x ≡ true → 0 < count_by q xs) xs
  counted-each [] = All-nil (λ (x : A). q x ≡ true → 0 < count_by q [])
  counted-each (y ∷ ys) =
      let cons = sum_by-cons (λ (z : A). one_if (q z)) y ys in
      All-cons (λ (x : A). q x ≡ true → 0 < count_by q (y ∷ ys)) y ys
      (λ is. let one : one_if (q y) ≡ 1 = ap one_if is in omega arith)
      (All-weaker (λ (x : A). q x ≡ true → 0 < count_by q ys) (λ (x : A). q x ≡ true →
      0 < count_by q (y ∷ ys)) (λ x some is. let more = some is in omega arith) ys (counted-each ys))

  -- one that is there and passes is counted
  pub count-contains : (xs : List A) (x : A) → Contains xs x → q x ≡ true → 0 < count_by q xs
  count-contains xs x held = All-contains (λ (y : A). q y ≡ true → 0 < count_by q xs) xs x (counted-each xs) held

  only-cons : (p : A → Bool) → ((x : A) → p x ≡ true → q x ≡ true) → (y x : A) (ys : List A) (b : Bool) → p y ≡ b →
      (p x ≡ true → count_by q ys ≤ 1 → find p ys ≡ Some x) → Contains ys x → p x ≡ true → count_by q (y ∷ ys) ≤ 1 →
      cond b (Some y) (find p ys) ≡ Some x
  only-cons p within y x ys true here rest held is most =
      let one : one_if (q y) ≡ 1 = ap one_if (within y here) in
      let cons = sum_by-cons (λ (z : A). one_if (q z)) y ys in
      let some = count-contains ys x held (within x is) in
      absurd (omega arith)
  only-cons p within y x ys false here rest held is most =
      let cons = sum_by-cons (λ (z : A). one_if (q z)) y ys in
      rest is (omega arith)

  only-each : (p : A → Bool) → ((x : A) → p x ≡ true → q x ≡ true) → (xs : List A) →
      All (λ (x : A). p x ≡ true → count_by q xs ≤ 1 → find p xs ≡ Some x) xs
  only-each p within [] = All-nil (λ (x : A). p x ≡ true → count_by q [] ≤ 1 → find p [] ≡ Some x)
  only-each p within (y ∷ ys) =
      let P : A → Type 0 = λ (x : A). p x ≡ true → count_by q ys ≤ 1 → find p ys ≡ Some x in
      let Q : A → Type 0 = λ (x : A). p x ≡ true → count_by q (y ∷ ys) ≤ 1 → find p (y ∷ ys) ≡ Some x in
      let each = only-each p within ys in
      All-cons Q y ys (λ is most. ap (λ (b : Bool). cond b (Some y) (find p ys)) is)
      (All-weaker (Contains ys) Q (λ x held is most. only-cons p within y x ys (p y) refl (All-contains P ys x each held)
      held is most) ys (All-contains_itself ys))

  -- where one at most passes, the one that passes is found
  pub found-only : (p : A → Bool) → ((x : A) → p x ≡ true → q x ≡ true) → (xs : List A) (x : A) → Contains xs x →
      p x ≡ true → count_by q xs ≤ 1 → find p xs ≡ Some x
  found-only p within xs x held is most = All-contains (λ (x : A). p x ≡ true → count_by q xs ≤ 1 →
      find p xs ≡ Some x) xs x (only-each p within xs) held is most

module _ {A : Type 0} (P : A → Type 0) (p : A → Bool) where
  found-has : (x y : A) (xs : List A) (b : Bool) → P x → (find p xs ≡ Some y → P y) → cond b (Some x) (find p xs) ≡ Some y → P y
  found-has x y xs true here rest found = subst P (same_Some x y found) here
  found-has x y xs false here rest found = rest found

  -- what holds of each holds of what is found
  pub All-found : (xs : List A) (y : A) → All P xs → find p xs ≡ Some y → P y
  All-found [] y held found = absurd (cc)
  All-found (x ∷ xs) y held found = found-has x y xs (p x) (All-head P x xs held) (All-found xs y (All-tail P x xs held)) found

  but-cons : (x : A) (xs : List A) (b : Bool) → p x ≡ b →
      (All P (without_first p xs) → All (λ (y : A). p y ≡ false → P y) xs) → All P (cond b xs (x ∷ without_first p xs)) →
      All (λ (y : A). p y ≡ false → P y) (x ∷ xs)
  but-cons x xs true is rest held =
      All-cons (λ (y : A). p y ≡ false → P y) x xs (λ isnt. absurd (cc)) (All-weaker P (λ (y : A). p y ≡ false →
      P y) (λ y has isnt. has) xs held)
  but-cons x xs false is rest held =
      All-cons (λ (y : A). p y ≡ false → P y) x xs (λ isnt. All-head P x (without_first p xs) held)
      (rest (All-tail P x (without_first p xs) held))

  -- what holds of each but the first that passes holds of all that don't pass
  All-but : (xs : List A) → All P (without_first p xs) → All (λ (y : A). p y ≡ false → P y) xs
  All-but [] held = All-nil (λ (y : A). p y ≡ false → P y)
  All-but (x ∷ xs) held = but-cons x xs (p x) refl (All-but xs) held

-- one that doesn't pass stays
pub stays-without : {A : Type 0} (p : A → Bool) (xs : List A) (x : A) → Contains xs x → p x ≡ false →
    Contains (without_first p xs) x
stays-without {A} p xs x held isnt =
    let l = without_first p xs in
    All-contains (λ (y : A). p y ≡ false → Contains l y) xs x (All-but (Contains l) p xs (All-contains_itself l)) held isnt

-- what is found is there
pub found-there : {A : Type 0} (p : A → Bool) (xs : List A) (y : A) → find p xs ≡ Some y → Contains xs y
found-there p xs y found = All-found (Contains xs) p xs y (All-contains_itself xs) found

module _ {A : Type 0} (p q : A → Bool) (apart : (x : A) → p x ≡ true → q x ≡ false) where
  count-aside-at : (x : A) (xs : List A) (b : Bool) → p x ≡ b → count_by q (without_first p xs) ≡ count_by q xs →
      count_by q (cond b xs (x ∷ without_first p xs)) ≡ count_by q (x ∷ xs)
  count-aside-at x xs true is rest =
      let here : one_if (q x) ≡ 0 = ap one_if (apart x is) in
      omega (arith, sum_by-cons (λ (y : A). one_if (q y)) x xs)
  count-aside-at x xs false is rest =
      omega (arith, sum_by-cons (λ (y : A). one_if (q y)) x xs, sum_by-cons (λ (y : A). one_if (q y)) x (without_first p xs))

  -- as many pass another test as before, which what is taken out doesn't pass
  pub count-aside : (xs : List A) → count_by q (without_first p xs) ≡ count_by q xs
  count-aside [] = refl
  count-aside (x ∷ xs) = count-aside-at x xs (p x) refl (count-aside xs)
