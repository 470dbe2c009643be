-- What a stable sort by a number gives is the list by key.
use Rattle.std.proofs.Common.{◌≡◌, ℕ, suc, ◌<◌, Bool, true, false, not, ◌&&◌, cond, eqb, eq-eqb, ltb, List, [], ◌∷◌, get_or, Less, Equal, Greater, refl, sym, ap, inl, inr, ◌∙◌, arith}
use Rattle.std.specs.List.{All, filter}
use Rattle.std.specs.List.Sorted.{IsSortedByKey, IsStableByKey, IsNonDecreasingBy, ties}
use Rattle.std.specs.Ordering.{nat_cmp, is_lt}
use Rattle.std.proofs.lemmas.Bool.{cases_Bool, cond-true, cond-false, eqb-true, eqb-false, ne_eqb, ltb-true}
use Rattle.std.proofs.lemmas.List.Elements.{All-nil, All-cons}
use Rattle.std.proofs.lemmas.List.Sorted.{IsNonDecreasingBy-from_sort}
use Rattle.zk_base.specs.Order.{put_by, put_all_by, by_key, Ascends}
use Rattle.zk_base.proofs.Order.{Ascends-put_by, filter-by_key, by_key-ascending, filter_none}

-- The order of numbers as sorts compare them.

lt-is : (a b : ℕ) → is_lt (nat_cmp a b) ≡ ltb a b
lt-is a b = by (ltb a b) (eqb a b) where
  by : (s t : Bool) → is_lt (cond s Less (cond t Equal Greater)) ≡ s
  by true t = refl
  by false true = refl
  by false false = refl

neither-below : (a b : ℕ) → (not (ltb a b) && not (ltb b a)) ≡ eqb a b
neither-below a b = elim (cases_Bool (ltb a b)) [
  | inl less ↦ ap (λ t. not t && not (ltb b a)) less ∙ sym (ne_eqb a b (λ same. let l = ltb-true a b less in absurd (omega arith)))
  | inr least ↦ elim (cases_Bool (ltb b a)) [
    | inl more ↦ ap (λ t. not t && not (ltb b a)) least ∙ ap not more ∙ sym (ne_eqb a b (λ same. let l = ltb-true b a more in absurd (omega arith)))
    | inr most ↦ ap (λ t. not t && not (ltb b a)) least ∙ ap not most ∙ sym (grind arith)
  ]
]

-- those of one key are those that are tied
tied-is : (a b : ℕ) → (not (is_lt (nat_cmp a b)) && not (is_lt (nat_cmp b a))) ≡ eqb a b
tied-is a b = ap (λ s. not s && not (is_lt (nat_cmp b a))) (lt-is a b) ∙ ap (λ s. not (ltb a b) && not s) (lt-is b a) ∙ neither-below a b

-- tests that agree keep the same
filter-same : {A : Type 0} (p q : A → Bool) (xs : List A) → ((a : A) → p a ≡ q a) → filter p xs ≡ filter q xs
filter-same p q [] same = refl
filter-same p q (x ∷ xs) same = ap (λ b. cond b (x ∷ filter p xs) (filter p xs)) (same x) ∙ ap (λ l. cond (q x) (x ∷ l) l) (filter-same p q xs same)

module _ {A : Type 0} (key : A → ℕ) where
  -- a list that doesn't fall ascends
  ascends-from : (xs : List A) → IsNonDecreasingBy key xs → Ascends key xs
  ascends-from [] up = tt
  ascends-from (x ∷ xs) up = (λ k d within. up 0 (suc k) d (omega arith) (omega arith), ascends-from xs (λ i j d le within. up (suc i) (suc j) d (omega arith) (omega arith)))

  -- and so does the list by key
  ascends-put_all : (sorted xs : List A) → Ascends key sorted → Ascends key (put_all_by key sorted xs)
  ascends-put_all sorted [] up = up
  ascends-put_all sorted (x ∷ xs) up = ascends-put_all (put_by key x sorted) xs (Ascends-put_by key x sorted up)

  -- those of one key
  abbrev pub of_key : ℕ → List A → List A
  of_key k xs = filter (λ a. eqb k (key a)) xs

  pub with-key : (k : ℕ) (x : A) (xs : List A) → k ≡ key x → of_key k (x ∷ xs) ≡ x ∷ of_key k xs
  with-key k x xs same = cond-true (eqb k (key x)) (x ∷ of_key k xs) (of_key k xs) (eq-eqb k (key x) same)

  pub other-key : (k : ℕ) (x : A) (xs : List A) → (k ≡ key x → ⊥) → of_key k (x ∷ xs) ≡ of_key k xs
  other-key k x xs other = cond-false (eqb k (key x)) (x ∷ of_key k xs) (of_key k xs) (ne_eqb k (key x) (λ same. absurd (other same)))

  -- none of an ascending list has a key below that of the first
  pub none-below : (k : ℕ) (y : A) (ys : List A) → Ascends key (y ∷ ys) → k < key y → of_key k (y ∷ ys) ≡ []
  none-below k y ys up low =
      other-key k y ys (λ same. omega arith)
      ∙ filter_none (λ a. eqb k (key a)) ys (λ i d within. ne_eqb k (key (get_or ys i d)) (λ same. let above = up.0 i d within in absurd (omega arith)))

  not-below : (x y : A) (xs ys : List A) → Ascends key (y ∷ ys) → of_key (key x) (x ∷ xs) ≡ of_key (key x) (y ∷ ys) → key x < key y → ⊥
  not-below x y xs ys up same low = absurd (cc (with-key (key x) x xs refl, same, none-below (key x) y ys up low))

  -- ascending lists are the same where they have the same of each key
  pub ascends-same : (xs ys : List A) → Ascends key xs → Ascends key ys → ((of : A) → of_key (key of) xs ≡ of_key (key of) ys) → xs ≡ ys
  ascends-same [] [] up over same = refl
  ascends-same [] (y ∷ ys) up over same = absurd (cc (same y, with-key (key y) y ys refl))
  ascends-same (x ∷ xs) [] up over same = absurd (cc (same x, with-key (key x) x xs refl))
  ascends-same (x ∷ xs) (y ∷ ys) up over same =
      let upper = not-below x y xs ys over (same x) in
      let lower = not-below y x ys xs up (sym (same y)) in
      let keys : key x ≡ key y = omega arith in
      let heads : x ∷ of_key (key x) xs ≡ y ∷ of_key (key x) ys = sym (with-key (key x) x xs refl) ∙ same x ∙ with-key (key x) y ys keys in
      let first : x ≡ y = cc in
      let rest : of_key (key x) xs ≡ of_key (key x) ys = cc in
      ap (λ z. z ∷ xs) first ∙ ap (λ l. y ∷ l) (ascends-same xs ys up.1 over.1
      (λ of. let k = key of in elim (cases_Bool (eqb k (key x))) [
        | inl is ↦ let k_is = eqb-true k (key x) is in ap (λ n. of_key n xs) k_is ∙ rest ∙ sym (ap (λ n. of_key n ys) k_is)
        | inr other ↦ let no_x = eqb-false k (key x) other in sym (other-key k x xs no_x) ∙ same of ∙ other-key k y ys (λ e. no_x (e ∙ sym keys))
      ]))

  -- those of one key are by key as they are
  all-of_key : (k : ℕ) (xs : List A) → All (λ a. k ≡ key a) (of_key k xs)
  all-of_key k [] = All-nil (λ a. k ≡ key a)
  all-of_key k (x ∷ xs) = by (eqb k (key x)) refl (all-of_key k xs) where
    by : (b : Bool) → eqb k (key x) ≡ b → All (λ a. k ≡ key a) (of_key k xs) → All (λ a. k ≡ key a) (cond b (x ∷ of_key k xs) (of_key k xs))
    by true is rest = All-cons (λ a. k ≡ key a) x (of_key k xs) (eqb-true k (key x) is) rest
    by false is rest = rest

  ascends-one : (k : ℕ) (xs : List A) → All (λ a. k ≡ key a) xs → Ascends key xs
  ascends-one k [] all = tt
  ascends-one k (x ∷ xs) all =
      (λ i d within. let first = all 0 x (omega arith) in let next = all (suc i) d (omega arith) in omega arith, ascends-one k xs (λ i d within. all (suc i) d (omega arith)))

  -- what is sorted, and keeps those of one key in their order, is the list by key
  pub stable-by_key : (xs ys : List A) → IsSortedByKey key nat_cmp ys → IsStableByKey key nat_cmp xs ys → ys ≡ by_key key xs
  stable-by_key xs ys sorted stable =
      ascends-same ys (by_key key xs) (ascends-from ys (IsNonDecreasingBy-from_sort key ys sorted)) (ascends-put_all [] xs tt)
      (λ of.
      let k = key of in
      let below : A → A → Bool = λ x y. is_lt (nat_cmp (key x) (key y)) in
      sym (filter-same (ties below of) (λ a. eqb k (key a)) ys (λ a. tied-is k (key a))) ∙ stable of
      ∙ filter-same (ties below of) (λ a. eqb k (key a)) xs (λ a. tied-is k (key a))
      ∙ sym (filter-by_key (λ a. eqb k (key a)) key xs ∙ by_key-ascending key (of_key k xs) (ascends-one k (of_key k xs) (all-of_key k xs))))

  -- and the list by key has those of one key as they were
  pub of_key-by_key : (k : ℕ) (xs : List A) → of_key k (by_key key xs) ≡ of_key k xs
  of_key-by_key k xs =
      filter-by_key (λ a. eqb k (key a)) key xs ∙ by_key-ascending key (of_key k xs) (ascends-one k (of_key k xs) (all-of_key k xs))

  pub ascends-by_key : (xs : List A) → Ascends key (by_key key xs)
  ascends-by_key xs = ascends-put_all [] xs tt
