-- Lemmas on filters and searches that the lists of waits need.
use Rattle.std.proofs.Common.{◌≡◌, ℕ, ◌<◌, ◌≤◌, ◌⊎◌, inl, inr, Bool, true, false, not, cond, ltb, Option, Some, None, is_some, List, [], ◌∷◌, ◌++◌, length, map, filter, filter_map, find, get_or, drop, All, refl, sym, ap, subst, ◌∙◌, arith}
use Rattle.std.specs.List.{cons_option}
use Rattle.std.proofs.lemmas.Option.{same_Some}
use Rattle.std.proofs.lemmas.Bool.{cases_lt, lt-ltb, le-ltb}
use Rattle.std.proofs.lemmas.List.Elements.{All-nil, All-cons, All-head, All-tail, All-weaker}
use Rattle.zk_base.specs.Lists.{without_first}
use Rattle.zk_base.specs.Order.{Ascends}
use Rattle.zk_base.proofs.Order.{filter_all, filter_none}

module _ {X : Type 0} where
  -- one filter after another, in any order
  pub filters-swap : (p q : X → Bool) (xs : List X) → filter p (filter q xs) ≡ filter q (filter p xs)
  filters-swap p q [] = refl
  filters-swap p q (x ∷ xs) = by (p x) (q x) refl refl (filters-swap p q xs) where
    by : (b c : Bool) → p x ≡ b → q x ≡ c → filter p (filter q xs) ≡ filter q (filter p xs) →
        filter p (cond c (x ∷ filter q xs) (filter q xs)) ≡ filter q (cond b (x ∷ filter p xs) (filter p xs))
    by true true px qx same = ap (λ b. cond b (x ∷ filter p (filter q xs)) (filter p (filter q xs))) px
        ∙ ap (λ (l : List X). x ∷ l) same
        ∙ ap (λ b. cond b (x ∷ filter q (filter p xs)) (filter q (filter p xs))) (sym qx)
    by true false px qx same = same ∙ ap (λ b. cond b (x ∷ filter q (filter p xs)) (filter q (filter p xs))) (sym qx)
    by false true px qx same = ap (λ b. cond b (x ∷ filter p (filter q xs)) (filter p (filter q xs))) px ∙ same
    by false false px qx same = same

  -- a filter by a weaker test changes nothing before one by a stronger
  pub filter-weaker : (p q : X → Bool) → ((x : X) → p x ≡ true → q x ≡ true) → (xs : List X) → filter p
      (filter q xs) ≡ filter p xs
  filter-weaker p q weaker [] = refl
  filter-weaker p q weaker (x ∷ xs) = by (p x) (q x) refl refl (filter-weaker p q weaker xs) where
    by : (b c : Bool) → p x ≡ b → q x ≡ c → filter p (filter q xs) ≡ filter p xs →
        filter p (cond c (x ∷ filter q xs) (filter q xs)) ≡ cond b (x ∷ filter p xs) (filter p xs)
    by b true px qx same = ap (λ b. cond b (x ∷ filter p (filter q xs)) (filter p (filter q xs))) px
        ∙ ap (λ (l : List X). cond b (x ∷ l) l) same
    by true false px qx same = absurd (cc (weaker x px, qx))
    by false false px qx same = same

  pub find-weaker : (p q : X → Bool) → ((x : X) → p x ≡ true → q x ≡ true) → (xs : List X) → find p (filter q xs) ≡ find p xs
  find-weaker p q weaker [] = refl
  find-weaker p q weaker (x ∷ xs) = by (p x) (q x) refl refl (find-weaker p q weaker xs) where
    by : (b c : Bool) → p x ≡ b → q x ≡ c → find p (filter q xs) ≡ find p xs →
        find p (cond c (x ∷ filter q xs) (filter q xs)) ≡ cond b (Some x) (find p xs)
    by b true px qx same = ap (λ b. cond b (Some x) (find p (filter q xs))) px ∙ ap (λ (o : Option X). cond b (Some x) o) same
    by true false px qx same = absurd (cc (weaker x px, qx))
    by false false px qx same = same

  -- what holds of those that pass holds of each where it passes
  pub all-of-filter : (p q : X → Bool) (xs : List X) → All (λ x. q x ≡ true) (filter p xs) → All (λ x. p x ≡ true → q x ≡ true) xs
  all-of-filter p q [] all = All-nil (λ x. p x ≡ true → q x ≡ true)
  all-of-filter p q (x ∷ xs) all = by (p x) refl all (all-of-filter p q xs) where
    by : (b : Bool) → p x ≡ b → All (λ x. q x ≡ true) (cond b (x ∷ filter p xs) (filter p xs)) →
        (All (λ x. q x ≡ true) (filter p xs) → All (λ x. p x ≡ true → q x ≡ true) xs) →
        All (λ x. p x ≡ true → q x ≡ true) (x ∷ xs)
    by true px all further = All-cons (λ x. p x ≡ true → q x ≡ true) x xs
        (λ is. All-head (λ x. q x ≡ true) x (filter p xs) all) (further (All-tail (λ x. q x ≡ true) x (filter p xs) all))
    by false px all further = All-cons (λ x. p x ≡ true → q x ≡ true) x xs (λ is. absurd (cc (is, px))) (further all)

  -- where nothing passes, all stay without it
  pub filter-not : (q : X → Bool) (xs : List X) → filter q xs ≡ [] → filter (λ x. not (q x)) xs ≡ xs
  filter-not q [] none = refl
  filter-not q (x ∷ xs) none = by (q x) none (filter-not q xs) where
    by : (b : Bool) → cond b (x ∷ filter q xs) (filter q xs) ≡ [] → (filter q xs ≡ [] → filter (λ x. not (q x)) xs ≡ xs) →
        cond (not b) (x ∷ filter (λ x. not (q x)) xs) (filter (λ x. not (q x)) xs) ≡ x ∷ xs
    by true none further = absurd (cc)
    by false none further = ap (λ (l : List X). x ∷ l) (further none)

  -- what is found passes
  pub found-passes : (p : X → Bool) (xs : List X) (x : X) → find p xs ≡ Some x → p x ≡ true
  found-passes p [] x found = absurd (cc)
  found-passes p (y ∷ ys) x found = by (p y) refl found (found-passes p ys x) where
    by : (b : Bool) → p y ≡ b → cond b (Some y) (find p ys) ≡ Some x → (find p ys ≡ Some x → p x ≡ true) → p x ≡ true
    by true py found further = subst (λ (z : X). p z ≡ true) (same_Some y x found) py
    by false py found further = further found

  -- what is found is among those of its kind
  found-there : (p q : X → Bool) (xs : List X) (x : X) → find p xs ≡ Some x → q x ≡ true → filter q xs ≡ [] → ⊥
  found-there p q [] x found qx nothing = absurd (cc)
  found-there p q (z ∷ zs) x found qx nothing = by (p z) (q z) refl found nothing (found-there p q zs x) where
    by : (b c : Bool) → q z ≡ c → cond b (Some z) (find p zs) ≡ Some x → cond c (z ∷ filter q zs) (filter q zs) ≡ [] →
        (find p zs ≡ Some x → q x ≡ true → filter q zs ≡ [] → ⊥) → ⊥
    by b true qz found nothing further = absurd (cc)
    by true false qz found nothing further = absurd (cc (sym (ap q (same_Some z x found)) ∙ qz, qx))
    by false false qz found nothing further = further found qx nothing

  -- what is found is the one of its kind, where one is
  pub found-alone : (p q : X → Bool) (xs : List X) (x y : X) → find p xs ≡ Some x → q x ≡ true → filter q xs ≡ y ∷ [] → x ≡ y
  found-alone p q [] x y found qx alone = absurd (cc)
  found-alone p q (z ∷ zs) x y found qx alone =
      by (p z) (q z) refl found alone (found-alone p q zs x y) (found-there p q zs x) where
        by : (b c : Bool) → q z ≡ c → cond b (Some z) (find p zs) ≡ Some x →
            cond c (z ∷ filter q zs) (filter q zs) ≡ y ∷ [] →
            (find p zs ≡ Some x → q x ≡ true → filter q zs ≡ y ∷ [] → x ≡ y) →
            (find p zs ≡ Some x → q x ≡ true → filter q zs ≡ [] → ⊥) → x ≡ y
        by true true qz found alone further there = sym (same_Some z x found) ∙ ap (λ (l : List X). get_or l 0 z) alone
        by true false qz found alone further there = absurd (cc (sym (ap q (same_Some z x found)) ∙ qz, qx))
        by false true qz found alone further there = absurd (there found qx (ap (λ (l : List X). drop 1 l) alone))
        by false false qz found alone further there = further found qx alone

  -- A list in order, at a bound.
  pub ascending-parts : (key : X → ℕ) (bound : ℕ) (xs : List X) → Ascends key xs →
      xs ≡ filter (λ x. ltb (key x) bound) xs ++ filter (λ x. not (ltb (key x) bound)) xs
  ascending-parts key bound [] up = refl
  ascending-parts key bound (x ∷ xs) up = by (cases_lt (key x) bound) (ascending-parts key bound xs up.1) where
    low : X → Bool
    low y = ltb (key y) bound

    high : X → Bool
    high y = not (ltb (key y) bound)

    by : (key x < bound) ⊎ (bound ≤ key x) → xs ≡ filter low xs ++ filter high xs →
        x ∷ xs ≡ cond (low x) (x ∷ filter low xs) (filter low xs) ++ cond (high x) (x ∷ filter high xs) (filter high xs)
    by (inl less) same = ap (λ (l : List X). x ∷ l) same
        ∙ ap (λ b. cond b (x ∷ filter low xs) (filter low xs) ++ cond (not b) (x ∷ filter high xs) (filter high xs))
        (sym (lt-ltb (key x) bound less))
    by (inr more) same =
        let each = All-weaker (λ (y : X). key x ≤ key y) (λ (y : X). ltb (key y) bound ≡ false)
        (λ y h. le-ltb (key y) bound (omega arith)) xs up.0 in
        let all = All-weaker (λ (y : X). ltb (key y) bound ≡ false) (λ (y : X). high y ≡ true)
        (λ y h. ap not h) xs each in
        ap (λ (l : List X). x ∷ l) (sym (filter_all high xs all))
        ∙ ap (λ (l : List X). l ++ x ∷ filter high xs) (sym (filter_none low xs each))
        ∙ ap (λ b. cond b (x ∷ filter low xs) (filter low xs) ++ cond (not b) (x ∷ filter high xs) (filter high xs))
        (sym (le-ltb (key x) bound more))

  -- where all keys are one, the list is in order
  pub Ascends-same : (key : X → ℕ) (k : ℕ) (xs : List X) → All (λ (x : X). key x ≡ k) xs → Ascends key xs
  Ascends-same key k [] all = tt
  Ascends-same key k (x ∷ xs) all =
      let here = All-head (λ (x : X). key x ≡ k) x xs all in (
        All-weaker (λ (y : X). key y ≡ k) (λ (y : X). key x ≤ key y) (λ y h. omega arith) xs
            (All-tail (λ (x : X). key x ≡ k) x xs all),
        Ascends-same key k xs (All-tail (λ (x : X). key x ≡ k) x xs all),
      )

-- What is found, and taken out, among what a map gives of some.
module _ {X Y : Type 0} (h : X → Option Y) (p : Y → Bool) (q : X → Bool)
    (only : (x : X) (y : Y) → h x ≡ Some y → p y ≡ true → q x ≡ true) where
  pub find-through : (xs : List X) → find p (filter_map h xs) ≡ find p (filter_map h (filter q xs))
  find-through [] = refl
  find-through (x ∷ xs) = by (h x) (q x) refl refl (find-through xs) where
    by : (o : Option Y) (b : Bool) → h x ≡ o → q x ≡ b → find p (filter_map h xs) ≡ find p (filter_map h (filter q xs)) →
        find p (cons_option o (filter_map h xs)) ≡ find p (filter_map h (cond b (x ∷ filter q xs) (filter q xs)))
    by o true hx qx same = at o same ∙ ap (λ (o : Option Y). find p (cons_option o (filter_map h (filter q xs)))) (sym hx) where
      at : (o : Option Y) → find p (filter_map h xs) ≡ find p (filter_map h (filter q xs)) →
          find p (cons_option o (filter_map h xs)) ≡ find p (cons_option o (filter_map h (filter q xs)))
      at None same = same
      at (Some y) same = ap (λ (o : Option Y). cond (p y) (Some y) o) same
    by None false hx qx same = same
    by (Some y) false hx qx same = at (p y) refl where
      at : (b : Bool) → p y ≡ b → cond b (Some y) (find p (filter_map h xs)) ≡ find p (filter_map h (filter q xs))
      at true py = absurd (cc (only x y hx py, qx))
      at false py = same

  -- where one may pass at most, and one does
  pub without-through : (xs : List X) → length (filter q xs) ≤ 1 → is_some (find p (filter_map h xs)) ≡ true →
      without_first p (filter_map h xs) ≡ filter_map h (filter (λ x. not (q x)) xs)
  without-through [] once some = absurd (cc)
  without-through (x ∷ xs) once some = by (h x) (q x) refl refl once some (without-through xs) where
    left : List X
    left = filter (λ x. not (q x)) xs

    by : (o : Option Y) (b : Bool) → h x ≡ o → q x ≡ b → length (cond b (x ∷ filter q xs) (filter q xs)) ≤ 1 →
        is_some (find p (cons_option o (filter_map h xs))) ≡ true →
        (length (filter q xs) ≤ 1 → is_some (find p (filter_map h xs)) ≡ true → without_first p
        (filter_map h xs) ≡ filter_map h left) →
        without_first p (cons_option o (filter_map h xs)) ≡ filter_map h (cond (not b) (x ∷ left) left)
    by None true hx qx once some further = absurd (cc (
      some,
      sym (ap is_some (find-through xs
          ∙ ap (λ (l : List X). find p (filter_map h l)) (empty (filter q xs) (omega arith)))),
    )) where
      empty : (l : List X) → length l ≤ 0 → l ≡ []
      empty [] short = refl
      empty (y ∷ ys) short = absurd (omega arith)
    by (Some y) true hx qx once some further = at (p y) refl some where
      empty : (l : List X) → length l ≤ 0 → l ≡ []
      empty [] short = refl
      empty (y ∷ ys) short = absurd (omega arith)

      at : (b : Bool) → p y ≡ b → is_some (cond b (Some y) (find p (filter_map h xs))) ≡ true →
          cond b (filter_map h xs) (y ∷ without_first p (filter_map h xs)) ≡ filter_map h left
      at true py some = ap (filter_map h) (sym (filter-not q xs (empty (filter q xs) (omega arith))))
      at false py some = absurd (cc (
        some,
        sym (ap is_some (find-through xs
            ∙ ap (λ (l : List X). find p (filter_map h l)) (empty (filter q xs) (omega arith)))),
      ))
    by None false hx qx once some further = further once some ∙ ap (λ (o : Option Y). cons_option o (filter_map h left)) (sym hx)
    by (Some y) false hx qx once some further = at (p y) refl some where
      at : (b : Bool) → p y ≡ b → is_some (cond b (Some y) (find p (filter_map h xs))) ≡ true →
          cond b (filter_map h xs) (y ∷ without_first p (filter_map h xs)) ≡ cons_option (h x) (filter_map h left)
      at true py some = absurd (cc (only x y hx py, qx))
      at false py some = ap (λ (l : List Y). y ∷ l) (further once some)
          ∙ ap (λ (o : Option Y). cons_option o (filter_map h left)) (sym hx)

-- where none passes, none is taken out
pub without-absent : {Y : Type 0} (p : Y → Bool) (ys : List Y) → find p ys ≡ None → without_first p ys ≡ ys
without-absent p [] none = refl
without-absent {Y} p (y ∷ ys) none = at (p y) none (without-absent p ys) where
  at : (b : Bool) → cond b (Some y) (find p ys) ≡ None → (find p ys ≡ None → without_first p ys ≡ ys) →
      cond b ys (y ∷ without_first p ys) ≡ y ∷ ys
  at true none further = absurd (cc)
  at false none further = ap (λ (l : List Y). y ∷ l) (further none)

-- a map as one that gives of some
pub map-some : {X Y : Type 0} (f : X → Y) (xs : List X) → map f xs ≡ filter_map (λ x. Some (f x)) xs
map-some f [] = refl
map-some {X} {Y} f (x ∷ xs) = ap (λ (l : List Y). f x ∷ l) (map-some f xs)
