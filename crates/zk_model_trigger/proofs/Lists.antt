-- Lists: what passes, what is counted, and one element more.
use Rattle.std.proofs.Common.{◌≡◌, ℕ, ◌+◌, ◌<◌, ◌≤◌, All, Bool, true, false, not, ◌&&◌, ◌||◌, cond, Option, Some, None, is_some, List, [], ◌∷◌, map, refl, ap, ◌∙◌, ltb, ◌⊎◌, inl, inr, arith}
use Rattle.std.specs.List.{filter, filter_map, cons_option, find, list_any, count_by}
use Rattle.std.proofs.lemmas.List.Elements.{All-head, All-tail}
use Rattle.std.proofs.lemmas.List.Sums.{sum_by-cons}
use Rattle.std.proofs.lemmas.Bool.{cases_lt}
use Rattle.zk_base.specs.Order.{put_by, put_all_by, by_key}
use Rattle.zk_base.proofs.Firsts.{one_if, any-counted, counted-any}

pub and_true : (b : Bool) → (b && true) ≡ b
and_true true = refl
and_true false = refl

pub and_false : (b : Bool) → (b && false) ≡ false
and_false true = refl
and_false false = refl

pub or_false : (b : Bool) → (b || false) ≡ b
or_false true = refl
or_false false = refl

pub or_swap : (a b : Bool) → (a || b) ≡ (b || a)
or_swap true true = refl
or_swap true false = refl
or_swap false true = refl
or_swap false false = refl

pub and_assoc : (a b c : Bool) → (a && (b && c)) ≡ ((a && b) && c)
and_assoc true b c = refl
and_assoc false b c = refl

-- what is neither so nor so fails both tests
pub none_if_not : {A : Type 0} (o : Option A) → not (is_some o) ≡ true → o ≡ None
none_if_not None is = refl
none_if_not (Some x) is = absurd (cc)

-- tests that agree on these keep the same of them
pub filter_agree_on : {A : Type 0} (p q : A → Bool) (xs : List A) → All (λ x. p x ≡ q x) xs → filter p xs ≡ filter q xs
filter_agree_on p q [] agree = refl
filter_agree_on {A} p q (x ∷ xs) agree =
    let P : A → Type 0 = λ y. p y ≡ q y in
    ap (λ (b : Bool). cond b (x ∷ filter p xs) (filter p xs)) (All-head P x xs agree)
    ∙ ap (λ (l : List A). cond (q x) (x ∷ l) l) (filter_agree_on p q xs (All-tail P x xs agree))

-- a test that always passes keeps all
pub filter_true : {A : Type 0} (xs : List A) → filter (λ x. true) xs ≡ xs
filter_true [] = refl
filter_true {A} (x ∷ xs) = ap (λ (l : List A). x ∷ l) (filter_true xs)

pub filter-map : {A B : Type 0} (p : B → Bool) (f : A → B) (xs : List A) →
    filter p (map f xs) ≡ map f (filter (λ x. p (f x)) xs)
filter-map p f [] = refl
filter-map {A} {B} p f (x ∷ xs) = at (p (f x)) (filter-map p f xs) where
  at : (b : Bool) → filter p (map f xs) ≡ map f (filter (λ x. p (f x)) xs) →
      cond b (f x ∷ filter p (map f xs)) (filter p (map f xs))
      ≡ map f (cond b (x ∷ filter (λ x. p (f x)) xs) (filter (λ x. p (f x)) xs))
  at true rest = ap (λ (l : List B). f x ∷ l) rest
  at false rest = rest

-- where each that passes is mapped, and no other
pub filter_map-as : {A B : Type 0} (h : A → Option B) (p : A → Bool) (f : A → B) (xs : List A) →
    All (λ x. h x ≡ cond (p x) (Some (f x)) None) xs → filter_map h xs ≡ map f (filter p xs)
filter_map-as h p f [] said = refl
filter_map-as {A} {B} h p f (x ∷ xs) said =
    let P : A → Type 0 = λ y. h y ≡ cond (p y) (Some (f y)) None in
    ap (λ (o : Option B). cons_option o (filter_map h xs)) (All-head P x xs said)
    ∙ at (p x) (filter_map-as h p f xs (All-tail P x xs said)) where
      at : (b : Bool) → filter_map h xs ≡ map f (filter p xs) →
          cons_option (cond b (Some (f x)) None) (filter_map h xs) ≡ map f (cond b (x ∷ filter p xs) (filter p xs))
      at true rest = ap (λ (l : List B). f x ∷ l) rest
      at false rest = rest

pub filter_map-none : {A B : Type 0} (h : A → Option B) (xs : List A) → All (λ x. h x ≡ None) xs → filter_map h xs ≡ []
filter_map-none h [] none = refl
filter_map-none {A} {B} h (x ∷ xs) none =
    let P : A → Type 0 = λ y. h y ≡ None in
    ap (λ (o : Option B). cons_option o (filter_map h xs)) (All-head P x xs none)
    ∙ filter_map-none h xs (All-tail P x xs none)

-- two maps that agree on each
pub filter_map-agree : {A B : Type 0} (h k : A → Option B) → ((x : A) → h x ≡ k x) → (xs : List A) →
    filter_map h xs ≡ filter_map k xs
filter_map-agree h k agree [] = refl
filter_map-agree {A} {B} h k agree (x ∷ xs) =
    ap (λ (o : Option B). cons_option o (filter_map h xs)) (agree x)
    ∙ ap (λ (l : List B). cons_option (k x) l) (filter_map-agree h k agree xs)

-- a search by a test that agrees on each
pub find_agree : {A : Type 0} (p q : A → Bool) → ((x : A) → p x ≡ q x) → (xs : List A) → find p xs ≡ find q xs
find_agree p q agree [] = refl
find_agree {A} p q agree (x ∷ xs) =
    ap (λ (b : Bool). cond b (Some x) (find p xs)) (agree x)
    ∙ ap (λ (o : Option A). cond (q x) (Some x) o) (find_agree p q agree xs)

-- a search that finds nothing finds nothing by a test that passes less
pub find_weaker : {A : Type 0} (p q : A → Bool) → ((x : A) → p x ≡ false → q x ≡ false) → (xs : List A) →
    find p xs ≡ None → find q xs ≡ None
find_weaker p q weaker [] none = refl
find_weaker {A} p q weaker (x ∷ xs) none = by (p x) refl none (find_weaker p q weaker xs) where
  by : (b : Bool) → p x ≡ b → cond b (Some x) (find p xs) ≡ None → (find p xs ≡ None → find q xs ≡ None) →
      cond (q x) (Some x) (find q xs) ≡ None
  by true is found rest = absurd (cc)
  by false is found rest = ap (λ (c : Bool). cond c (Some x) (find q xs)) (weaker x is) ∙ rest found

-- Counts.

pub count-cons : {A : Type 0} (p : A → Bool) (x : A) (xs : List A) → count_by p (x ∷ xs) ≡ one_if (p x) + count_by p xs
count-cons p x xs = sum_by-cons (λ y. one_if (p y)) x xs

pub count-map : {A B : Type 0} (p : B → Bool) (f : A → B) (xs : List A) → count_by p (map f xs) ≡ count_by (λ x. p (f x)) xs
count-map p f [] = refl
count-map p f (x ∷ xs) =
    let rest = count-map p f xs in
    omega (arith, count-cons p (f x) (map f xs), count-cons (λ y. p (f y)) x xs)

-- a test that passes where another does passes as often
pub count-same : {A : Type 0} (p q : A → Bool) → ((x : A) → p x ≡ q x) → (xs : List A) → count_by p xs ≡ count_by q xs
count-same p q same [] = refl
count-same p q same (x ∷ xs) =
    let rest = count-same p q same xs in
    let here = ap one_if (same x) in
    omega (arith, count-cons p x xs, count-cons q x xs)

-- counts that add up at each element add up
pub count-sum : {A : Type 0} (p q r : A → Bool) → ((x : A) → one_if (p x) ≡ one_if (q x) + one_if (r x)) → (xs : List A) →
    count_by p xs ≡ count_by q xs + count_by r xs
count-sum p q r adds [] = refl
count-sum p q r adds (x ∷ xs) =
    let rest = count-sum p q r adds xs in
    let here = adds x in
    omega (arith, count-cons p x xs, count-cons q x xs, count-cons r x xs)

-- what holds of both holds of the one that a test picks
either : {A : Type 0} (P : List A → Type 0) (b : Bool) (l m : List A) → P l → P m → P (cond b l m)
either P true l m left right = left
either P false l m left right = right

count-put_by : {A : Type 0} (p : A → Bool) (key : A → ℕ) (x : A) (xs : List A) →
    count_by p (put_by key x xs) ≡ one_if (p x) + count_by p xs
count-put_by p key x [] = count-cons p x []
count-put_by {A} p key x (y ∷ ys) =
    let rest = count-put_by p key x ys in
    let P : List A → Type 0 = λ l. count_by p l ≡ one_if (p x) + count_by p (y ∷ ys) in
    let behind : P (y ∷ put_by key x ys) = omega (arith, count-cons p y (put_by key x ys), count-cons p y ys) in
    either P (ltb (key x) (key y)) (x ∷ y ∷ ys) (y ∷ put_by key x ys) (count-cons p x (y ∷ ys)) behind

count-put_all_by : {A : Type 0} (p : A → Bool) (key : A → ℕ) (sorted xs : List A) →
    count_by p (put_all_by key sorted xs) ≡ count_by p sorted + count_by p xs
count-put_all_by p key sorted [] = omega arith
count-put_all_by p key sorted (x ∷ xs) =
    let rest = count-put_all_by p key (put_by key x sorted) xs in
    omega (arith, count-put_by p key x sorted, count-cons p x xs)

-- in another order as many pass
pub count-by_key : {A : Type 0} (p : A → Bool) (key : A → ℕ) (xs : List A) → count_by p (by_key key xs) ≡ count_by p xs
count-by_key p key xs = let all = count-put_all_by p key [] xs in omega arith

-- those that pass a test and the others
pub count-both : {A : Type 0} (p q : A → Bool) (xs : List A) →
    count_by p xs ≡ count_by p (filter q xs) + count_by p (filter (λ x. not (q x)) xs)
count-both p q [] = refl
count-both {A} p q (x ∷ xs) = by (q x) (count-both p q xs) where
  yes : List A
  yes = filter q xs

  no : List A
  no = filter (λ y. not (q y)) xs

  by : (b : Bool) → count_by p xs ≡ count_by p yes + count_by p no →
      count_by p (x ∷ xs) ≡ count_by p (cond b (x ∷ yes) yes) + count_by p (cond (not b) (x ∷ no) no)
  by true rest = omega (arith, count-cons p x xs, count-cons p x yes)
  by false rest = omega (arith, count-cons p x xs, count-cons p x no)

-- two tests that pass somewhere alike
pub same_any : {A B : Type 0} (p : A → Bool) (q : B → Bool) (xs : List A) (ys : List B) →
    (0 < count_by p xs → 0 < count_by q ys) → (0 < count_by q ys → 0 < count_by p xs) → list_any p xs ≡ list_any q ys
same_any p q xs ys there back = by (list_any p xs) (list_any q ys) refl refl where
  by : (a b : Bool) → list_any p xs ≡ a → list_any q ys ≡ b → a ≡ b
  by true true is so = refl
  by false false is so = refl
  by true false is so = absurd (let other = any-counted q ys (there (counted-any p xs is)) in cc)
  by false true is so = absurd (let other = any-counted p xs (back (counted-any q ys so)) in cc)

pub none_any : {A : Type 0} (p : A → Bool) (xs : List A) → count_by p xs ≡ 0 → list_any p xs ≡ false
none_any p xs none = by (list_any p xs) refl where
  by : (b : Bool) → list_any p xs ≡ b → b ≡ false
  by false is = refl
  by true is = absurd (let some = counted-any p xs is in omega arith)

pub none_counted : {A : Type 0} (p : A → Bool) (xs : List A) → list_any p xs ≡ false → count_by p xs ≡ 0
none_counted p xs none = by (cases_lt 0 (count_by p xs)) where
  by : (0 < count_by p xs) ⊎ (count_by p xs ≤ 0) → count_by p xs ≡ 0
  by (inl some) = absurd (let any = any-counted p xs some in cc)
  by (inr less) = omega arith
