-- Elements by key: one more, a filter, a map, a bound, and the place where one is put in.
use Rattle.std.proofs.Common.{◌≡◌, ℕ, suc, ◌+◌, ◌<◌, ◌≤◌, Bool, true, false, not, ◌||◌, cond, ltb, leb, Some, List, [], ◌∷◌, ◌++◌, length, map, All, refl, sym, ap, subst, ◌∙◌, ◌⊎◌, inl, inr, arith}
use Rattle.std.specs.List.{filter, list_any, insert, position_or_len, find, slice_get}
use Rattle.std.proofs.lemmas.Bool.{lt-ltb, le-ltb, lt-leb, cases_lt}
use Rattle.std.proofs.lemmas.List.{append-nil, append_assoc}
use Rattle.std.proofs.lemmas.List.Elements.{All-nil, All-cons, All-head, All-tail, All-weaker, All-filter}
use Rattle.zk_base.specs.Order.{put_by, put_all_by, by_key, Ascends}
use Rattle.zk_base.proofs.Lists.{All-front, All-back}

-- it goes in front of the first one if its key is below that one's
pub put_by-below : {A : Type 0} (key : A → ℕ) (x y : A) (ys : List A) → key x < key y → put_by key x (y ∷ ys) ≡ x ∷ y ∷ ys
put_by-below key x y ys below = ap (λ b. cond b (x ∷ y ∷ ys) (y ∷ put_by key x ys)) (lt-ltb (key x) (key y) below)

-- and else somewhere behind it
pub put_by-above : {A : Type 0} (key : A → ℕ) (x y : A) (ys : List A) → key y ≤ key x →
    put_by key x (y ∷ ys) ≡ y ∷ put_by key x ys
put_by-above key x y ys above = ap (λ b. cond b (x ∷ y ∷ ys) (y ∷ put_by key x ys)) (le-ltb (key x) (key y) above)

-- in front of all whose keys are above its own
pub put_by-first : {A : Type 0} (key : A → ℕ) (x : A) (ys : List A) → All (λ y. key x < key y) ys → put_by key x ys ≡ x ∷ ys
put_by-first key x [] below = refl
put_by-first {A} key x (y ∷ ys) below = put_by-below key x y ys (All-head (λ (y : A). key x < key y) y ys below)

-- behind all whose keys aren't above its own
pub put_by-last : {A : Type 0} (key : A → ℕ) (x : A) (ys : List A) → All (λ y. key y ≤ key x) ys → put_by key x ys ≡ ys ++ x ∷ []
put_by-last key x [] above = refl
put_by-last {A} key x (y ∷ ys) above =
    let P : A → Type 0 = λ y. key y ≤ key x in
    put_by-above key x y ys (All-head P y ys above) ∙ ap (λ (l : List A). y ∷ l) (put_by-last key x ys (All-tail P y ys above))

-- between those whose keys aren't above its own and those whose keys are
pub put_by-between : {A : Type 0} (key : A → ℕ) (x : A) (xs ys : List A) → All (λ y. key y ≤ key x) xs →
    All (λ y. key x < key y) ys → put_by key x (xs ++ ys) ≡ xs ++ x ∷ ys
put_by-between key x [] ys above below = put_by-first key x ys below
put_by-between {A} key x (y ∷ xs) ys above below =
    let P : A → Type 0 = λ y. key y ≤ key x in
    put_by-above key x y (xs ++ ys) (All-head P y xs above)
    ∙ ap (λ (l : List A). y ∷ l) (put_by-between key x xs ys (All-tail P y xs above) below)

-- what holds of both of two lists holds of the one that a test picks
either : {A : Type 0} (P : List A → Type 0) (b : Bool) (l m : List A) → P l → P m → P (cond b l m)
either P true l m left right = left
either P false l m left right = right

pub All-put_by : {A : Type 0} (P : A → Type 0) (key : A → ℕ) (x : A) (xs : List A) → P x → All P xs → All P (put_by key x xs)
All-put_by P key x [] here all = All-cons P x [] here all
All-put_by {A} P key x (y ∷ ys) here all =
    either (All P) (ltb (key x) (key y)) (x ∷ y ∷ ys) (y ∷ put_by key x ys)
    (All-cons P x (y ∷ ys) here all)
    (All-cons P y (put_by key x ys) (All-head P y ys all) (All-put_by P key x ys here (All-tail P y ys all)))

pub length-put_by : {A : Type 0} (key : A → ℕ) (x : A) (xs : List A) → length (put_by key x xs) ≡ length xs + 1
length-put_by key x [] = refl
length-put_by {A} key x (y ∷ ys) =
    let rest = length-put_by key x ys in
    either (λ (l : List A). length l ≡ suc (length ys) + 1) (ltb (key x) (key y)) (x ∷ y ∷ ys) (y ∷ put_by key x ys)
    (omega arith) (omega arith)

pub map-put_by : {A B : Type 0} (f : A → B) (key : B → ℕ) (x : A) (xs : List A) →
    map f (put_by (λ a. key (f a)) x xs) ≡ put_by key (f x) (map f xs)
map-put_by f key x [] = refl
map-put_by {A} {B} f key x (y ∷ ys) = at (ltb (key (f x)) (key (f y))) (map-put_by f key x ys) where
  at : (b : Bool) → map f (put_by (λ a. key (f a)) x ys) ≡ put_by key (f x) (map f ys) →
      map f (cond b (x ∷ y ∷ ys) (y ∷ put_by (λ a. key (f a)) x ys)) ≡ cond b (f x ∷ f y ∷ map f ys)
      (f y ∷ put_by key (f x) (map f ys))
  at true rest = refl
  at false rest = ap (λ (l : List B). f y ∷ l) rest

or_swap : (a b c : Bool) → (a || (b || c)) ≡ (b || (a || c))
or_swap true true c = refl
or_swap true false c = refl
or_swap false b c = refl

-- a test passes at one of them where it did before, or where it passes at what was put in
pub list_any-put_by : {A : Type 0} (p : A → Bool) (key : A → ℕ) (x : A) (xs : List A) →
    list_any p (put_by key x xs) ≡ (p x || list_any p xs)
list_any-put_by p key x [] = refl
list_any-put_by {A} p key x (y ∷ ys) =
    either (λ (l : List A). list_any p l ≡ (p x || (p y || list_any p ys))) (ltb (key x) (key y)) (x ∷ y ∷ ys)
    (y ∷ put_by key x ys)
    refl
    (ap (λ b. p y || b) (list_any-put_by p key x ys) ∙ or_swap (p y) (p x) (list_any p ys))

-- no key falls still
pub Ascends-put_by : {A : Type 0} (key : A → ℕ) (x : A) (xs : List A) → Ascends key xs → Ascends key (put_by key x xs)
Ascends-put_by {A} key x [] up = (All-nil (λ (y : A). key x ≤ key y), tt)
Ascends-put_by {A} key x (y ∷ ys) up = by (cases_lt (key x) (key y)) (Ascends-put_by key x ys up.1) where
  by : ((key x < key y) ⊎ (key y ≤ key x)) → Ascends key (put_by key x ys) → Ascends key (put_by key x (y ∷ ys))
  by (inl below) rest =
      let P : A → Type 0 = λ z. key y ≤ key z in
      let Q : A → Type 0 = λ z. key x ≤ key z in
      subst (Ascends key) (sym (put_by-below key x y ys below))
      (All-cons Q y ys (omega arith) (All-weaker P Q (λ z h. omega arith) ys up.0), up)
  by (inr above) rest =
      let P : A → Type 0 = λ z. key y ≤ key z in
      subst (Ascends key) (sym (put_by-above key x y ys above)) (All-put_by P key x ys above up.0, rest)

-- the keys of the second of two lists aren't below those of the first
pub Ascends-parts : {A : Type 0} (key : A → ℕ) (xs ys : List A) → Ascends key (xs ++ ys) →
    Ascends key xs × Ascends key ys × All (λ x. All (λ y. key x ≤ key y) ys) xs
Ascends-parts {A} key [] ys up = (tt, up, All-nil (λ (x : A). All (λ y. key x ≤ key y) ys))
Ascends-parts {A} key (x ∷ xs) ys up =
    let P : A → Type 0 = λ y. key x ≤ key y in
    let rest = Ascends-parts key xs ys up.1 in (
      (All-front P xs ys up.0, rest.0),
      rest.1,
      All-cons (λ (x : A). All (λ y. key x ≤ key y) ys) x xs (All-back P xs ys up.0) rest.2,
    )

-- What is put in among those that pass a test.

pub filter-put_by : {A : Type 0} (p : A → Bool) (key : A → ℕ) (x : A) (xs : List A) → Ascends key xs →
    filter p (put_by key x xs) ≡ cond (p x) (put_by key x (filter p xs)) (filter p xs)
filter-put_by p key x [] up = refl
filter-put_by {A} p key x (y ∷ ys) up = by (cases_lt (key x) (key y)) (filter-put_by p key x ys up.1) where
  kept : List A
  kept = filter p (y ∷ ys)

  later : (b c : Bool) → key y ≤ key x → filter p (put_by key x ys) ≡ cond b (put_by key x (filter p ys)) (filter p ys) →
      cond c (y ∷ filter p (put_by key x ys)) (filter p (put_by key x ys))
      ≡ cond b (put_by key x (cond c (y ∷ filter p ys) (filter p ys))) (cond c (y ∷ filter p ys) (filter p ys))
  later true true above rest = ap (λ (l : List A). y ∷ l) rest ∙ sym (put_by-above key x y (filter p ys) above)
  later true false above rest = rest
  later false true above rest = ap (λ (l : List A). y ∷ l) rest
  later false false above rest = rest

  by : ((key x < key y) ⊎ (key y ≤ key x)) → filter p (put_by key x ys) ≡ cond (p x) (put_by key x (filter p ys)) (filter p ys) →
      filter p (put_by key x (y ∷ ys)) ≡ cond (p x) (put_by key x kept) kept
  by (inl below) rest =
      let P : A → Type 0 = λ z. key y ≤ key z in
      let Q : A → Type 0 = λ z. key x < key z in
      let first = put_by-first key x kept
      (All-filter p Q (y ∷ ys) (All-cons Q y ys below (All-weaker P Q (λ z h. omega arith) ys up.0))) in
      ap (filter p) (put_by-below key x y ys below) ∙ ap (λ (l : List A). cond (p x) l kept) (sym first)
  by (inr above) rest = ap (filter p) (put_by-above key x y ys above) ∙ later (p x) (p y) above rest

pub Ascends-filter : {A : Type 0} (p : A → Bool) (key : A → ℕ) (xs : List A) → Ascends key xs → Ascends key (filter p xs)
Ascends-filter p key [] up = tt
Ascends-filter {A} p key (x ∷ xs) up =
    either (Ascends key) (p x) (x ∷ filter p xs) (filter p xs)
    (All-filter p (λ y. key x ≤ key y) xs up.0, Ascends-filter p key xs up.1)
    (Ascends-filter p key xs up.1)

-- Many elements put in, one after another.

put_all_by-append : {A : Type 0} (key : A → ℕ) (sorted xs ys : List A) →
    put_all_by key sorted (xs ++ ys) ≡ put_all_by key (put_all_by key sorted xs) ys
put_all_by-append key sorted [] ys = refl
put_all_by-append key sorted (x ∷ xs) ys = put_all_by-append key (put_by key x sorted) xs ys

pub by_key-append : {A : Type 0} (key : A → ℕ) (xs ys : List A) → by_key key (xs ++ ys) ≡ put_all_by key (by_key key xs) ys
by_key-append key xs ys = put_all_by-append key [] xs ys

-- one element more at the end of the list
pub by_key-snoc : {A : Type 0} (key : A → ℕ) (xs : List A) (x : A) → by_key key (xs ++ x ∷ []) ≡ put_by key x (by_key key xs)
by_key-snoc key xs x = by_key-append key xs (x ∷ [])

All-put_all_by : {A : Type 0} (P : A → Type 0) (key : A → ℕ) (sorted xs : List A) → All P sorted → All P xs →
    All P (put_all_by key sorted xs)
All-put_all_by P key sorted [] front all = front
All-put_all_by P key sorted (x ∷ xs) front all =
    All-put_all_by P key (put_by key x sorted) xs (All-put_by P key x sorted (All-head P x xs all) front) (All-tail P x xs all)

pub All-by_key : {A : Type 0} (P : A → Type 0) (key : A → ℕ) (xs : List A) → All P xs → All P (by_key key xs)
All-by_key P key xs all = All-put_all_by P key [] xs (All-nil P) all

length-put_all_by : {A : Type 0} (key : A → ℕ) (sorted xs : List A) →
    length (put_all_by key sorted xs) ≡ length sorted + length xs
length-put_all_by key sorted [] = omega arith
length-put_all_by key sorted (x ∷ xs) = let rest = length-put_all_by key (put_by key x sorted) xs in
    omega (arith, length-put_by key x sorted)

pub length-by_key : {A : Type 0} (key : A → ℕ) (xs : List A) → length (by_key key xs) ≡ length xs
length-by_key key xs = omega (arith, length-put_all_by key [] xs)

list_any-put_all_by : {A : Type 0} (p : A → Bool) (key : A → ℕ) (sorted xs : List A) →
    list_any p (put_all_by key sorted xs) ≡ (list_any p xs || list_any p sorted)
list_any-put_all_by p key sorted [] = refl
list_any-put_all_by p key sorted (x ∷ xs) =
    list_any-put_all_by p key (put_by key x sorted) xs ∙ ap (λ b. list_any p xs || b) (list_any-put_by p key x sorted)
    ∙ or_move (p x) (list_any p xs) (list_any p sorted) where
      or_move : (a b c : Bool) → (b || (a || c)) ≡ ((a || b) || c)
      or_move true true c = refl
      or_move true false c = refl
      or_move false b c = refl

-- a test passes at one of them where it does in the list
pub list_any-by_key : {A : Type 0} (p : A → Bool) (key : A → ℕ) (xs : List A) → list_any p (by_key key xs) ≡ list_any p xs
list_any-by_key p key xs = list_any-put_all_by p key [] xs ∙ or_nothing (list_any p xs) where
  or_nothing : (b : Bool) → (b || false) ≡ b
  or_nothing true = refl
  or_nothing false = refl

map-put_all_by : {A B : Type 0} (f : A → B) (key : B → ℕ) (sorted xs : List A) →
    map f (put_all_by (λ a. key (f a)) sorted xs) ≡ put_all_by key (map f sorted) (map f xs)
map-put_all_by f key sorted [] = refl
map-put_all_by {A} {B} f key sorted (x ∷ xs) =
    map-put_all_by f key (put_by (λ a. key (f a)) x sorted) xs
    ∙ ap (λ (l : List B). put_all_by key l (map f xs)) (map-put_by f key x sorted)

pub map-by_key : {A B : Type 0} (f : A → B) (key : B → ℕ) (xs : List A) →
    map f (by_key (λ a. key (f a)) xs) ≡ by_key key (map f xs)
map-by_key f key xs = map-put_all_by f key [] xs

filter-put_all_by : {A : Type 0} (p : A → Bool) (key : A → ℕ) (sorted xs : List A) → Ascends key sorted →
    filter p (put_all_by key sorted xs) ≡ put_all_by key (filter p sorted) (filter p xs)
filter-put_all_by p key sorted [] up = refl
filter-put_all_by {A} p key sorted (x ∷ xs) up =
    filter-put_all_by p key (put_by key x sorted) xs (Ascends-put_by key x sorted up)
    ∙ ap (λ (l : List A). put_all_by key l (filter p xs)) (filter-put_by p key x sorted up) ∙ at (p x) where
      at : (b : Bool) → put_all_by key (cond b (put_by key x (filter p sorted)) (filter p sorted)) (filter p xs)
          ≡ put_all_by key (filter p sorted) (cond b (x ∷ filter p xs) (filter p xs))
      at true = refl
      at false = refl

-- those that pass, by key, are those by key that pass
pub filter-by_key : {A : Type 0} (p : A → Bool) (key : A → ℕ) (xs : List A) → filter p (by_key key xs) ≡ by_key key (filter p xs)
filter-by_key p key xs = filter-put_all_by p key [] xs tt

-- as many pass a test
pub length-filter_by_key : {A : Type 0} (p : A → Bool) (key : A → ℕ) (xs : List A) →
    length (filter p (by_key key xs)) ≡ length (filter p xs)
length-filter_by_key p key xs = ap length (filter-by_key p key xs) ∙ length-by_key key (filter p xs)

put_all_by-ascending : {A : Type 0} (key : A → ℕ) (sorted xs : List A) → Ascends key (sorted ++ xs) →
    put_all_by key sorted xs ≡ sorted ++ xs
put_all_by-ascending key sorted [] up = sym (append-nil sorted)
put_all_by-ascending {A} key sorted (x ∷ xs) up =
    let P : A → Type 0 = λ y. All (λ z. key y ≤ key z) (x ∷ xs) in
    let parts = Ascends-parts key sorted (x ∷ xs) up in
    let last = put_by-last key x sorted (All-weaker P (λ y. key y ≤ key x) (λ y h. All-head (λ z. key y ≤ key z) x xs h)
    sorted parts.2) in
    let whole = append_assoc sorted (x ∷ []) xs in
    ap (λ (l : List A). put_all_by key l xs) last
    ∙ put_all_by-ascending key (sorted ++ x ∷ []) xs (subst (Ascends key) (sym whole) up) ∙ whole

-- what stands in order already stays as it is
pub by_key-ascending : {A : Type 0} (key : A → ℕ) (xs : List A) → Ascends key xs → by_key key xs ≡ xs
by_key-ascending key xs up = put_all_by-ascending key [] xs up

-- a search gives the first of those that pass
pub find-filter : {A : Type 0} (p : A → Bool) (xs : List A) → find p xs ≡ slice_get (filter p xs) 0
find-filter p [] = refl
find-filter {A} p (x ∷ xs) = at (p x) (find-filter p xs) where
  at : (b : Bool) → find p xs ≡ slice_get (filter p xs) 0 →
      cond b (Some x) (find p xs) ≡ slice_get (cond b (x ∷ filter p xs) (filter p xs)) 0
  at true rest = refl
  at false rest = rest

Ascends-short : {A : Type 0} (key : A → ℕ) (xs : List A) → length xs ≤ 1 → Ascends key xs
Ascends-short key [] short = tt
Ascends-short {A} key (x ∷ []) short = (All-nil (λ (y : A). key x ≤ key y), tt)
Ascends-short key (x ∷ y ∷ ys) short = absurd (omega arith)

-- where at most one passes, it is found in any order
pub find-by_key : {A : Type 0} (p : A → Bool) (key : A → ℕ) (xs : List A) → length (filter p xs) ≤ 1 →
    find p (by_key key xs) ≡ find p xs
find-by_key {A} p key xs once =
    find-filter p (by_key key xs)
    ∙ ap (λ (l : List A). slice_get l 0) (filter-by_key p key xs
    ∙ by_key-ascending key (filter p xs) (Ascends-short key (filter p xs) once))
    ∙ sym (find-filter p xs)

-- A list in order, at a bound: those whose key isn't above it are its front.

-- where all pass, all stay
pub filter_all : {A : Type 0} (p : A → Bool) (xs : List A) → All (λ x. p x ≡ true) xs → filter p xs ≡ xs
filter_all p [] all = refl
filter_all {A} p (x ∷ xs) all =
    let P : A → Type 0 = λ x. p x ≡ true in
    ap (λ b. cond b (x ∷ filter p xs) (filter p xs)) (All-head P x xs all)
    ∙ ap (λ (l : List A). x ∷ l) (filter_all p xs (All-tail P x xs all))

-- where none passes, none does
pub filter_none : {A : Type 0} (p : A → Bool) (xs : List A) → All (λ x. p x ≡ false) xs → filter p xs ≡ []
filter_none p [] all = refl
filter_none {A} p (x ∷ xs) all =
    let P : A → Type 0 = λ x. p x ≡ false in
    ap (λ b. cond b (x ∷ filter p xs) (filter p xs)) (All-head P x xs all) ∙ filter_none p xs (All-tail P x xs all)

above_all : {A : Type 0} (key : A → ℕ) (bound : ℕ) (x : A) (xs : List A) → Ascends key (x ∷ xs) → bound < key x →
    All (λ y. bound < key y) (x ∷ xs)
above_all {A} key bound x xs up above =
    let P : A → Type 0 = λ y. key x ≤ key y in
    let Q : A → Type 0 = λ y. bound < key y in
    All-cons Q x xs above (All-weaker P Q (λ y h. omega arith) xs up.0)

-- where the head is past the bound, all are
pub filter-upto_none : {A : Type 0} (key : A → ℕ) (bound : ℕ) (x : A) (xs : List A) → Ascends key (x ∷ xs) →
    bound < key x → filter (λ a. leb (key a) bound) (x ∷ xs) ≡ []
filter-upto_none {A} key bound x xs up above =
    filter_none (λ (a : A). leb (key a) bound) (x ∷ xs)
    (All-weaker (λ y. bound < key y) (λ y. leb (key y) bound ≡ false) (λ y h. lt-leb (key y) bound h) (x ∷ xs)
    (above_all key bound x xs up above))

-- The place where one is put in: in front of the first one whose key is above its own.

pub put_by-insert : {A : Type 0} (key : A → ℕ) (x : A) (xs : List A) →
    put_by key x xs ≡ insert xs (position_or_len (λ y. ltb (key x) (key y)) xs) x
put_by-insert key x [] = refl
put_by-insert {A} key x (y ∷ ys) = at (ltb (key x) (key y)) (position_or_len (λ z. ltb (key x) (key z)) ys)
    (put_by-insert key x ys) where
      at : (b : Bool) (n : ℕ) → put_by key x ys ≡ insert ys n x →
          cond b (x ∷ y ∷ ys) (y ∷ put_by key x ys) ≡ insert (y ∷ ys) (cond (not b) (1 + n) 0) x
      at true n rest = refl
      at false n rest =
          let next : suc n ≡ 1 + n = omega arith in
          ap (λ (l : List A). y ∷ l) rest ∙ ap (λ (i : ℕ). insert (y ∷ ys) i x) next
