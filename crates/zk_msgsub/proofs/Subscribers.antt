-- Lists of different subscribers: what stays one, and that it is short.
use Rattle.std.proofs.Common.{◌≡◌, ℕ, zero, suc, inl, inr, ◌<◌, ◌≤◌, Bool, true, false, not, ◌==◌, ◌&&◌, ◌||◌, nat_lt, cond, List, [], ◌∷◌, ◌++◌, length, filter, refl, sym, ap, subst, ◌∙◌, arith}
use Rattle.std.specs.List.{list_all}
use Rattle.std.proofs.lemmas.Bool.{and_from, and_parts, cases_eq, eq-eqb, eqb-true, ltb-true, lt-ltb, ne_eqb, not-true, not_from_false, or_parts}
use Rattle.std.proofs.lemmas.List.Filters.{length-filter_both}
use Rattle.std.proofs.lemmas.List.Folds.{list_all-append, list_any-append}
use Rattle.zk_base.specs.Limits.{most_few}
use Rattle.zk_msgsub.specs.Fan.{are_subscribers, is_in, is_once_each, is_subscriber, without}

-- Truth values.

pub eqb-sym : (a b : ℕ) → (a == b) ≡ (b == a)
eqb-sym a b = elim (cases_eq a b) [
  | inl same ↦ eq-eqb a b same ∙ sym (eq-eqb b a (sym same))
  | inr differ ↦ ne_eqb a b differ ∙ sym (ne_eqb b a (λ same. differ (sym same)))
]

kept-or : (b s a q : Bool) → (s ≡ true → b ≡ q) → cond b (s || (a && q)) (a && q) ≡ ((s || a) && q)
kept-or true true a q same = same refl
kept-or true false a q same = refl
kept-or false true true q same = refl
kept-or false true false q same = same refl
kept-or false false a q same = refl

-- Whether a number is there.

pub is_in-append : (xs ys : List ℕ) (n : ℕ) → is_in (xs ++ ys) n ≡ (is_in xs n || is_in ys n)
is_in-append xs ys n = list_any-append (λ m. m == n) xs ys

is_in-cond : (b : Bool) (x : ℕ) (xs : List ℕ) (n : ℕ) → is_in (cond b (x ∷ xs) xs) n ≡ cond b ((x == n) || is_in xs n)
    (is_in xs n)
is_in-cond true x xs n = refl
is_in-cond false x xs n = refl

pub is_in-filter : (p : ℕ → Bool) (xs : List ℕ) (n : ℕ) → is_in (filter p xs) n ≡ (is_in xs n && p n)
is_in-filter p [] n = refl
is_in-filter p (x ∷ xs) n =
    is_in-cond (p x) x (filter p xs) n
    ∙ ap (λ (c : Bool). cond (p x) ((x == n) || c) c) (is_in-filter p xs n)
    ∙ kept-or (p x) (x == n) (is_in xs n) (p n) (λ same. ap p (eqb-true x n same))

-- one that isn't there isn't kept either
pub not_in-filter : (p : ℕ → Bool) (xs : List ℕ) (n : ℕ) → is_in xs n ≡ false → is_in (filter p xs) n ≡ false
not_in-filter p xs n none = is_in-filter p xs n ∙ ap (λ (b : Bool). b && p n) none

-- two tests that agree but for one number keep the same of a list without it
pub filter-but : (p q : ℕ → Bool) (n : ℕ) (xs : List ℕ) → is_in xs n ≡ false → ((m : ℕ) → (m == n) ≡ false → p m ≡ q m) →
    filter p xs ≡ filter q xs
filter-but p q n [] none agree = refl
filter-but p q n (x ∷ xs) none agree =
    let parts = or_parts (x == n) (is_in xs n) none in
    ap (λ (b : Bool). cond b (x ∷ filter p xs) (filter p xs)) (agree x parts.0)
    ∙ ap (λ (l : List ℕ). cond (q x) (x ∷ l) l) (filter-but p q n xs parts.1 agree)

-- Once each.

is_once_each-cond : (b : Bool) (x : ℕ) (xs : List ℕ) → is_in xs x ≡ false → is_once_each xs ≡ true →
    is_once_each (cond b (x ∷ xs) xs) ≡ true
is_once_each-cond true x xs none once = and_from (not (is_in xs x)) (is_once_each xs) (not_from_false (is_in xs x) none) once
is_once_each-cond false x xs none once = once

pub once-head : (x : ℕ) (xs : List ℕ) → is_once_each (x ∷ xs) ≡ true → is_in xs x ≡ false
once-head x xs once = not-true (is_in xs x) (and_parts (not (is_in xs x)) (is_once_each xs) once).0

pub once-tail : (x : ℕ) (xs : List ℕ) → is_once_each (x ∷ xs) ≡ true → is_once_each xs ≡ true
once-tail x xs once = (and_parts (not (is_in xs x)) (is_once_each xs) once).1

pub is_once_each-filter : (p : ℕ → Bool) (xs : List ℕ) → is_once_each xs ≡ true → is_once_each (filter p xs) ≡ true
is_once_each-filter p [] once = refl
is_once_each-filter p (x ∷ xs) once = is_once_each-cond (p x) x (filter p xs)
    (not_in-filter p xs x (once-head x xs once)) (is_once_each-filter p xs (once-tail x xs once))

apart : (s a b : Bool) → (s || a) ≡ false → (b ≡ s) → (s ≡ false) × (a ≡ false) × (b ≡ false)
apart true a b none same = absurd (cc)
apart false a b none same = (refl, none, same)

pub is_once_each-push : (xs : List ℕ) (n : ℕ) → is_once_each xs ≡ true → is_in xs n ≡ false → is_once_each (xs ++ n ∷ []) ≡ true
is_once_each-push [] n once none = refl
is_once_each-push (x ∷ xs) n once none =
    let parts = apart (x == n) (is_in xs n) (n == x) none (eqb-sym n x) in
    let none' : is_in (xs ++ n ∷ []) x ≡ false = is_in-append xs (n ∷ []) x
    ∙ ap (λ (b : Bool). b || ((n == x) || false)) (once-head x xs once) ∙ ap (λ (b : Bool). b || false) parts.2 in
    and_from (not (is_in (xs ++ n ∷ []) x)) (is_once_each (xs ++ n ∷ [])) (not_from_false (is_in (xs ++ n ∷ []) x) none')
    (is_once_each-push xs n (once-tail x xs once) parts.1)

-- All of them pass a test.

list_all-cond : (q : ℕ → Bool) (b : Bool) (x : ℕ) (xs : List ℕ) → q x ≡ true → list_all q xs ≡ true →
    list_all q (cond b (x ∷ xs) xs) ≡ true
list_all-cond q true x xs passes all = and_from (q x) (list_all q xs) passes all
list_all-cond q false x xs passes all = all

pub list_all-filter : (q p : ℕ → Bool) (xs : List ℕ) → list_all q xs ≡ true → list_all q (filter p xs) ≡ true
list_all-filter q p [] all = refl
list_all-filter q p (x ∷ xs) all =
    let parts = and_parts (q x) (list_all q xs) all in
    list_all-cond q (p x) x (filter p xs) parts.0 (list_all-filter q p xs parts.1)

-- So many different numbers below n are n at most.

none-same : (n : ℕ) (xs : List ℕ) → is_in xs n ≡ false → length (filter (λ m. m == n) xs) ≡ 0
none-same n [] none = refl
none-same n (x ∷ xs) none = by (x == n) none (none-same n xs) where
  by : (b : Bool) → (b || is_in xs n) ≡ false → (is_in xs n ≡ false → length (filter (λ m. m == n) xs) ≡ 0) →
      length (cond b (x ∷ filter (λ m. m == n) xs) (filter (λ m. m == n) xs)) ≡ 0
  by true none rest = absurd (cc)
  by false none rest = rest none

one-same : (n : ℕ) (xs : List ℕ) → is_once_each xs ≡ true → length (filter (λ m. m == n) xs) ≤ 1
one-same n [] once = omega arith
one-same n (x ∷ xs) once = by (x == n) refl (one-same n xs (once-tail x xs once)) where
  by : (b : Bool) → (x == n) ≡ b → length (filter (λ m. m == n) xs) ≤ 1 →
      length (cond b (x ∷ filter (λ m. m == n) xs) (filter (λ m. m == n) xs)) ≤ 1
  by true same rest =
      let none = none-same n xs (subst (λ (m : ℕ). is_in xs m ≡ false) (eqb-true x n same) (once-head x xs once)) in
      omega arith
  by false differ rest = rest

less : (x n : ℕ) → x < suc n → (x == n) ≡ false → x < n
less x n below differ = elim (cases_eq x n) [
  | inl same ↦ let is = eq-eqb x n same in absurd (cc)
  | inr apart ↦ omega arith
]

below-less : (n : ℕ) (xs : List ℕ) → list_all (λ m. nat_lt m (suc n)) xs ≡ true → list_all (λ m. nat_lt m n) (without n xs) ≡ true
below-less n [] all = refl
below-less n (x ∷ xs) all =
    let parts = and_parts (nat_lt x (suc n)) (list_all (λ m. nat_lt m (suc n)) xs) all in
    by (x == n) refl (ltb-true x (suc n) parts.0) (below-less n xs parts.1) where
      by : (b : Bool) → (x == n) ≡ b → x < suc n → list_all (λ m. nat_lt m n) (without n xs) ≡ true →
          list_all (λ m. nat_lt m n) (cond (not b) (x ∷ without n xs) (without n xs)) ≡ true
      by true same below rest = rest
      by false differ below rest =
          and_from (nat_lt x n) (list_all (λ m. nat_lt m n) (without n xs)) (lt-ltb x n (less x n below differ)) rest

few-below : (n : ℕ) (xs : List ℕ) → list_all (λ m. nat_lt m n) xs ≡ true → is_once_each xs ≡ true → length xs ≤ n
few-below zero [] all once = omega arith
few-below zero (x ∷ xs) all once = let none = ltb-true x 0 (and_parts (nat_lt x 0) (list_all (λ m. nat_lt m 0) xs)
    all).0 in absurd (omega arith)
few-below (suc n) xs all once =
    let both = length-filter_both (λ m. m == n) (λ m. not (m == n)) (λ x. refl) xs in
    let one = one-same n xs once in
    let rest = few-below n (without n xs) (below-less n xs all) (is_once_each-filter (λ m. not (m == n)) xs once) in
    omega arith

-- Different subscribers.

pub subscribers-once : (xs : List ℕ) → are_subscribers xs ≡ true → is_once_each xs ≡ true
subscribers-once xs are = (and_parts (list_all is_subscriber xs) (is_once_each xs) are).1

-- they are few
pub subscribers-few : (xs : List ℕ) → are_subscribers xs ≡ true → length xs ≤ most_few
subscribers-few xs are =
    let parts = and_parts (list_all is_subscriber xs) (is_once_each xs) are in
    few-below most_few xs parts.0 parts.1

-- some of them are different ones too
pub subscribers-filter : (p : ℕ → Bool) (xs : List ℕ) → are_subscribers xs ≡ true → are_subscribers (filter p xs) ≡ true
subscribers-filter p xs are =
    let parts = and_parts (list_all is_subscriber xs) (is_once_each xs) are in
    and_from (list_all is_subscriber (filter p xs)) (is_once_each (filter p xs)) (list_all-filter is_subscriber p xs parts.0)
    (is_once_each-filter p xs parts.1)

-- and so are they with one more that isn't there
pub subscribers-push : (xs : List ℕ) (n : ℕ) → are_subscribers xs ≡ true → is_subscriber n ≡ true → is_in xs n ≡ false →
    are_subscribers (xs ++ n ∷ []) ≡ true
subscribers-push xs n are is none =
    let parts = and_parts (list_all is_subscriber xs) (is_once_each xs) are in
    let all = list_all-append is_subscriber xs (n ∷ [])
    ∙ and_from (list_all is_subscriber xs) (is_subscriber n && true) parts.0 (and_from (is_subscriber n) true is refl) in
    and_from (list_all is_subscriber (xs ++ n ∷ [])) (is_once_each (xs ++ n ∷ [])) all (is_once_each-push xs n parts.1 none)

-- for which there is room
pub subscribers-room : (xs : List ℕ) (n : ℕ) → are_subscribers xs ≡ true → is_subscriber n ≡ true → is_in xs n ≡ false →
    length xs < most_few
subscribers-room xs n are is none =
    let few = subscribers-few (xs ++ n ∷ []) (subscribers-push xs n are is none) in
    let long = Rattle.std.proofs.lemmas.List.length-append xs (n ∷ []) in
    omega arith
