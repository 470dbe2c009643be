-- Lists whose keys rise: what is at a key, what is left without it, and where a search by the key ends.
use Rattle.std.proofs.Common.{◌≡◌, ◌≢◌, ℕ, zero, suc, ◌<◌, ◌≤◌, ◌⊎◌, inl, inr, true, false, not, cond, eqb, ltb, List, [], ◌∷◌, ◌++◌, length, set, get_or, map, filter, All, sym, ap, subst, ◌∙◌, arith}
use Rattle.std.specs.List.{remove}
use Rattle.std.specs.List.Sorted.{IsPartitionedBy, IsPartitionPoint}
use Rattle.std.proofs.lemmas.Bool.{cases_eq, cases_order, ltb-true, ltb-false, eq-eqb, ne_eqb, lt-ltb, not_from_false}
use Rattle.std.proofs.lemmas.List.Folds.{map_fixed}
use Rattle.std.proofs.lemmas.List.Elements.{All-nil, All-cons, All-head, All-tail}
use Rattle.std.proofs.lemmas.List.Quantifiers.{all_pairs_push}
use Rattle.zk_base.specs.Slots.{Rises}
use Rattle.zk_base.proofs.Order.{filter_all, filter_none}

module _ {X : Type 0} (key : X → ℕ) where
  pub rest : (x : X) (xs : List X) → Rises key (x ∷ xs) → Rises key xs
  rest x xs rises = λ i j d less within. rises (suc i) (suc j) d (omega arith) (omega arith)

  pub above : (x : X) (xs : List X) → Rises key (x ∷ xs) → All (λ (y : X). key x < key y) xs
  above x xs rises = λ k d within. rises 0 (suc k) d (omega arith) (omega arith)

  -- what is behind an element has another key
  pub behind : (x : X) (xs : List X) (k : ℕ) → Rises key (x ∷ xs) → key x ≡ k → All (λ (y : X). key y ≢ k) xs
  behind x xs k rises same = λ i d within is. let less = above x xs rises i d within in absurd (omega arith)

  -- and so has what is in front of it
  pub front : (x : X) (xs : List X) (i : ℕ) (d : X) (k : ℕ) → Rises key (x ∷ xs) → i < length xs →
      key (get_or xs i d) ≡ k → key x ≢ k
  front x xs i d k rises within at = λ same. let less = above x xs rises i d within in absurd (omega arith)

  -- the same list with the element of a key changed
  pub at_key : ℕ → (X → X) → X → X
  at_key k f x = cond (eqb (key x) k) (f x) x

  elsewhere_same : (k : ℕ) (f : X → X) (xs : List X) → All (λ (y : X). key y ≢ k) xs → map (λ x. cond (eqb (key x) k)
      (f x) x) xs ≡ xs
  elsewhere_same k f xs differ = map_fixed (λ x. cond (eqb (key x) k) (f x) x) xs
      (λ i d within. ap (λ b. cond b (f (get_or xs i d)) (get_or xs i d)) (ne_eqb (key (get_or xs i d)) k (differ i d within)))

  pub set-map : (f : X → X) (xs : List X) (i : ℕ) (d : X) (k : ℕ) → Rises key xs → i < length xs →
      key (get_or xs i d) ≡ k → set xs i (f (get_or xs i d)) ≡ map (λ x. cond (eqb (key x) k) (f x) x) xs
  set-map f [] i d k rises within at = absurd (omega arith)
  set-map f (x ∷ xs) zero d k rises within at =
      ap (λ (l : List X). f x ∷ l) (sym (elsewhere_same k f xs (behind x xs k rises at)))
      ∙ ap (λ b. cond b (f x) x ∷ map (λ x. cond (eqb (key x) k) (f x) x) xs) (sym (eq-eqb (key x) k at))
  set-map f (x ∷ xs) (suc i) d k rises within at =
      ap (λ (l : List X). x ∷ l) (set-map f xs i d k (rest x xs rises) (omega arith) at)
      ∙ ap (λ b. cond b (f x) x ∷ map (λ x. cond (eqb (key x) k) (f x) x) xs)
      (sym (ne_eqb (key x) k (front x xs i d k rises (omega arith) at)))

  others : (k : ℕ) (xs : List X) → All (λ (y : X). key y ≢ k) xs → All (λ (y : X). not (eqb (key y) k) ≡ true) xs
  others k xs differ = λ i d within.
      not_from_false (eqb (key (get_or xs i d)) k) (ne_eqb (key (get_or xs i d)) k (differ i d within))

  -- the list without the element of a key
  pub remove-filter : (xs : List X) (i : ℕ) (d : X) (k : ℕ) → Rises key xs → i < length xs →
      key (get_or xs i d) ≡ k → remove xs i ≡ filter (λ x. not (eqb (key x) k)) xs
  remove-filter [] i d k rises within at = absurd (omega arith)
  remove-filter (x ∷ xs) zero d k rises within at =
      sym (filter_all (λ x. not (eqb (key x) k)) xs (others k xs (behind x xs k rises at)))
      ∙ ap (λ b. cond (not b) (x ∷ filter (λ x. not (eqb (key x) k)) xs) (filter (λ x. not (eqb (key x) k)) xs))
      (sym (eq-eqb (key x) k at))
  remove-filter (x ∷ xs) (suc i) d k rises within at =
      ap (λ (l : List X). x ∷ l) (remove-filter xs i d k (rest x xs rises) (omega arith) at)
      ∙ ap (λ b. cond (not b) (x ∷ filter (λ x. not (eqb (key x) k)) xs) (filter (λ x. not (eqb (key x) k)) xs))
      (sym (ne_eqb (key x) k (front x xs i d k rises (omega arith) at)))

  -- nothing is of a key that none has
  pub nothing-at : (k : ℕ) (xs : List X) → All (λ (y : X). key y ≢ k) xs → filter (λ x. eqb (key x) k) xs ≡ []
  nothing-at k xs differ = filter_none (λ x. eqb (key x) k) xs
      (λ i d within. ne_eqb (key (get_or xs i d)) k (differ i d within))

  -- one element is of a key
  pub alone-at : (xs : List X) (i : ℕ) (d : X) (k : ℕ) → Rises key xs → i < length xs → key (get_or xs i d) ≡ k →
      filter (λ x. eqb (key x) k) xs ≡ get_or xs i d ∷ []
  alone-at [] i d k rises within at = absurd (omega arith)
  alone-at (x ∷ xs) zero d k rises within at =
      ap (λ b. cond b (x ∷ filter (λ x. eqb (key x) k) xs) (filter (λ x. eqb (key x) k) xs)) (eq-eqb (key x) k at)
      ∙ ap (λ (l : List X). x ∷ l) (nothing-at k xs (behind x xs k rises at))
  alone-at (x ∷ xs) (suc i) d k rises within at =
      ap (λ b. cond b (x ∷ filter (λ x. eqb (key x) k) xs) (filter (λ x. eqb (key x) k) xs))
      (ne_eqb (key x) k (front x xs i d k rises (omega arith) at))
      ∙ alone-at xs i d k (rest x xs rises) (omega arith) at

  -- one more behind all
  pub Rises-push : (xs : List X) (x : X) → Rises key xs → All (λ (y : X). key y < key x) xs → Rises key (xs ++ x ∷ [])
  Rises-push xs x rises below = all_pairs_push (λ (y z : X). key y < key z) xs x rises below

  pub Rises-cons : (x : X) (xs : List X) → All (λ (y : X). key x < key y) xs → Rises key xs → Rises key (x ∷ xs)
  Rises-cons x xs up rises = λ i j d less within. by i j d less within where
    by : (i j : ℕ) (d : X) → i < j → j < suc (length xs) → key (get_or (x ∷ xs) i d) < key (get_or (x ∷ xs) j d)
    by i zero d less within = absurd (omega arith)
    by zero (suc j) d less within = up j d (omega arith)
    by (suc i) (suc j) d less within = rises i j d (omega arith) (omega arith)

  -- a list of the same keys
  pub Rises-map : (f : X → X) → ((x : X) → key (f x) ≡ key x) → (xs : List X) → Rises key xs → Rises key (map f xs)
  Rises-map f same [] rises = rises
  Rises-map f same (x ∷ xs) rises = Rises-cons (f x) (map f xs) (each xs (above x xs rises)) (Rises-map f same xs
      (rest x xs rises)) where
        each : (ys : List X) → All (λ (y : X). key x < key y) ys → All (λ (y : X). key (f x) < key y) (map f ys)
        each [] all = All-nil (λ (y : X). key (f x) < key y)
        each (y ∷ ys) all = All-cons (λ (y : X). key (f x) < key y) (f y) (map f ys)
            (let one = All-head (λ (y : X). key x < key y) y ys all in
            let to = same x in let from = same y in omega arith)
            (each ys (All-tail (λ (y : X). key x < key y) y ys all))

  -- The first that isn't below a key.
  pub parted : (k : ℕ) (xs : List X) → Rises key xs → IsPartitionedBy (λ (x : X). ltb (key x) k) xs
  parted k xs rises = λ i j d less within passes.
      by i j d (cases_eq i j) less within (ltb-true (key (get_or xs j d)) k passes) where
        by : (i j : ℕ) (d : X) → (i ≡ j) ⊎ (i ≡ j → ⊥) → i ≤ j → j < length xs → key (get_or xs j d) < k →
            ltb (key (get_or xs i d)) k ≡ true
        by i j d (inl same) less within below =
            lt-ltb (key (get_or xs i d)) k (subst (λ n. key (get_or xs n d) < k) (sym same) below)
        by i j d (inr differ) less within below =
            let rise = rises i j d (omega arith) within in
            lt-ltb (key (get_or xs i d)) k (omega arith)

  pub nowhere : (k i : ℕ) (xs : List X) → Rises key xs →
      IsPartitionPoint (λ (x : X). ltb (key x) k ≡ true) (λ (x : X). ltb (key x) k ≡ false) xs i →
      ((d : X) → i < length xs → key (get_or xs i d) ≢ k) → All (λ (x : X). key x ≢ k) xs
  nowhere k i xs rises point differ = λ j d within is. by j d within is (cases_order j i) where
    by : (j : ℕ) (d : X) → j < length xs → key (get_or xs j d) ≡ k → (j ≡ i) ⊎ ((j < i) ⊎ (i < j)) → ⊥
    by j d within is (inl same) = differ d (omega arith) (subst (λ n. key (get_or xs n d) ≡ k) same is)
    by j d within is (inr (inl less)) =
        let below = ltb-true (key (get_or xs j d)) k (point.0 j d (omega arith) less) in omega arith
    by j d within is (inr (inr more)) =
        let here = ltb-false (key (get_or xs i d)) k (point.1 i d (omega arith) (omega arith)) in
        let rise = rises i j d more within in
        omega arith
