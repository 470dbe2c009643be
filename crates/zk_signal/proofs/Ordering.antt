-- Writes in the order of their stamps: for whoever closes a signal and plays its writes.
use Rattle.std.proofs.Common.{◌≡◌, ◌≢◌, ⊎_elim, ℕ, zero, suc, ◌+◌, ◌<◌, ◌≤◌, List, [], ◌∷◌, length, map, get_or, Contains, IsPermutation, refl, sym, ap, ◌∙◌, arith}
use Rattle.std.specs.List.Sorted.{IsNonDecreasingBy}
use Rattle.std.proofs.lemmas.Bool.{cases_lt}
use Rattle.std.proofs.lemmas.List.Sorted.{Contains-permutation}
use native.Mathlib.Decide.{ℕ_discrete}
use Rattle.zk_signal.specs.Counts.{tally, once, EachOnceTo, CountsFrom}
use Rattle.zk_signal.proofs.Counts.{equal-else, once-below}

module _ {A : Type 0} (stamp : A → ℕ) where
  -- one with this stamp is there
  abbrev Has : ℕ → List A → Type 0
  Has n xs = (x : A) × Contains xs x × (stamp x ≡ n)

  tally-has : (n : ℕ) (xs : List A) → 0 < tally n (map stamp xs) → Has n xs
  tally-has n [] some_one = absurd (omega arith)
  tally-has n (x ∷ xs) some_one = one (ℕ_discrete n (stamp x)) (λ more. tally-has n xs more) where
    one : Dec (n ≡ stamp x) → (0 < tally n (map stamp xs) → Has n xs) → Has n (x ∷ xs)
    one (yes same) later = (x, (0, omega arith, refl), sym same)
    one (no differ) later =
        let none_here = equal-else n (stamp x) differ in
        let rest = later (omega arith) in
        (rest.0, (suc rest.1.0, (let lt = rest.1.1 in omega arith), rest.1.2), rest.2)

  -- each stamp from 1 to the last is there
  each_has : (xs : List A) (c n : ℕ) → EachOnceTo c (map stamp xs) → n < c → Has (n + 1) xs
  each_has xs c n all lt = tally-has (n + 1) xs
      (let there = all (n + 1) in
      let next : n + 1 ≡ suc n = omega arith in
      let is = ap (once c) next in
      let one = once-below c n lt in
      omega arith)

  -- what is there and isn't the first is behind it
  has-behind : (y : A) (ys : List A) (n : ℕ) → stamp y ≢ n → Has n (y ∷ ys) → Has n ys
  has-behind y ys n differ (x, (zero, lt, is), at) = absurd (differ (ap stamp is ∙ at))
  has-behind y ys n differ (x, (suc i, lt, is), at) = (x, (i, (omega arith), is), at)

  first-le : (y : A) (ys : List A) (n : ℕ) → IsNonDecreasingBy stamp (y ∷ ys) → Has n (y ∷ ys) → stamp y ≤ n
  first-le y ys n up (x, (i, lt, is), at) = let le = up 0 i x (omega arith) lt in let same = ap stamp is in omega arith

  behind-up : (y : A) (ys : List A) → IsNonDecreasingBy stamp (y ∷ ys) → IsNonDecreasingBy stamp ys
  behind-up y ys up i j d le lt = up (suc i) (suc j) d (omega arith) (omega arith)

  -- a list that has each stamp is long enough
  long_enough : (ys : List A) (k c : ℕ) → IsNonDecreasingBy stamp ys → ((n : ℕ) → k ≤ n → n < c → Has (n + 1) ys) →
      c ≤ length ys + k
  long_enough [] k c up has = ⊎_elim
      (λ lt. let one = has k (omega arith) lt in let no_place = one.1.1 in absurd (omega arith)) (λ le. omega arith) (cases_lt k c)
  long_enough (y ∷ ys) k c up has = ⊎_elim
      (λ lt.
      let first = first-le y ys (k + 1) up (has k (omega arith) lt) in
      let rest = long_enough ys (k + 1) c (behind-up y ys up)
      (λ n le less. has-behind y ys (n + 1) (λ e. omega arith) (has n (omega arith) less)) in
      omega arith)
      (λ le. omega arith)
      (cases_lt k c)

  -- as many as there are stamps, each there, in order: they are just these
  in_order : (ys : List A) (k c : ℕ) → IsNonDecreasingBy stamp ys → ((n : ℕ) → k ≤ n → n < c → Has (n + 1) ys) →
      length ys + k ≡ c → CountsFrom k (map stamp ys)
  in_order [] k c up has long = tt
  in_order (y ∷ ys) k c up has long =
      let first = first-le y ys (k + 1) up (has k (omega arith) (omega arith)) in
      let at_first : stamp y ≡ k + 1 = ⊎_elim
      (λ lt.
      let more = long_enough ys k c (behind-up y ys up)
      (λ n le less. has-behind y ys (n + 1) (λ e. omega arith) (has n le less)) in
      absurd (omega arith))
      (λ le. omega arith)
      (cases_lt (stamp y) (k + 1)) in (
        at_first,
        in_order ys (k + 1) c (behind-up y ys up)
            (λ n le less. has-behind y ys (n + 1) (λ e. omega arith) (has n (omega arith) less)) (omega arith),
      )

  -- all writes, sorted by their stamps
  pub sorted-counts : (xs ys : List A) → EachOnceTo (length xs) (map stamp xs) → IsPermutation xs ys →
      length ys ≡ length xs → IsNonDecreasingBy stamp ys → CountsFrom 0 (map stamp ys)
  sorted-counts xs ys all moved same up =
      in_order ys 0 (length xs) up
      (λ n le lt. let h = each_has xs (length xs) n all lt in (h.0, Contains-permutation xs ys h.0 moved h.1, h.2)) (omega arith)

  -- the one at a place has the stamp after it
  pub counts-at : (ys : List A) (k i : ℕ) (d : A) → CountsFrom k (map stamp ys) → i < length ys → stamp (get_or ys i d) ≡ k + i + 1
  counts-at [] k i d counts lt = absurd (omega arith)
  counts-at (y ∷ ys) k zero d counts lt = let first = counts.0 in omega arith
  counts-at (y ∷ ys) k (suc i) d counts lt = let rest = counts-at ys (k + 1) i d counts.1 (omega arith) in omega arith

  -- what is among them stands at the place before its stamp
  pub place-of : (ys : List A) (x : A) → CountsFrom 0 (map stamp ys) → Contains ys x →
      (i : ℕ) × (i < length ys) × (stamp x ≡ i + 1) × (get_or ys i x ≡ x)
  place-of ys x counts (i, lt, is) =
      (i, lt, (let there = counts-at ys 0 i x counts lt in let same = ap stamp is in omega arith), is)
