-- Numbers that are as often in a list as from 0 on: in order they are just these.
use Rattle.std.proofs.Common.{◌≡◌, ◌≢◌, ◌⊎◌, inl, inr, ℕ, zero, suc, ◌+◌, ◌<◌, ◌≤◌, cond, List, [], ◌∷◌, length, map, Some, IsPermutation, refl, sym, ap, subst, ◌∙◌, arith, eq-eqb, ne_eqb}
use Rattle.std.specs.List.{slice_get}
use Rattle.std.specs.List.Sorted.{IsNonDecreasingBy}
use Rattle.std.proofs.lemmas.Option.{slice_get_within, get_or_from_slice_get}
use Rattle.std.proofs.lemmas.Bool.{cases_lt}
use Rattle.std.proofs.lemmas.List.Sums.{sum_by-cons}
use native.Mathlib.Decide.{ℕ_discrete}
use Rattle.zk_signal.specs.Counts as stamps
use Rattle.zk_signal.proofs.Counts.{once-below, once-past}
use Rattle.zk_signal.proofs.Counts as stamped
use Rattle.zk_signal.proofs.Ordering.{sorted-counts, counts-at}
use Rattle.zk_pool.specs.Counts.{tally}
use Rattle.zk_pool.proofs.Counts.{equal}
use Rattle.zk_kernel.specs.Rests.{numbers_from}

-- one where two numbers are equal
equal-self : (n : ℕ) → equal n n ≡ 1
equal-self n = ap (λ b. cond b 1 0) (eq-eqb n n refl)

equal-else : (n m : ℕ) → n ≢ m → equal n m ≡ 0
equal-else n m differ = ap (λ b. cond b 1 0) (ne_eqb n m differ)

tally-cons : (n m : ℕ) (ns : List ℕ) → tally n (m ∷ ns) ≡ equal n m + tally n ns
tally-cons n m ns = sum_by-cons (equal n) m ns

-- how often a number is among so many from one on
before-all : (n k many : ℕ) → n < k → tally n (numbers_from k many) ≡ 0
before-all n k zero before = refl
before-all n k (suc many) before =
    let none = equal-else n k (λ same. omega arith) in
    let rest = before-all n (k + 1) many (omega arith) in
    let one = tally-cons n k (numbers_from (k + 1) many) in
    omega arith

counted-from : (n k many : ℕ) → k ≤ n → tally n (numbers_from k many) ≡ stamps.once (k + many) (suc n)
counted-from n k zero from = sym (once-past (k + 0) n (omega arith))
counted-from n k (suc many) from = here (ℕ_discrete n k) (λ later. counted-from n (k + 1) many later) (tally-cons n k (numbers_from (k + 1) many)) where
  below-or : n ≢ k → (k < n) ⊎ (n ≤ k) → k + 1 ≤ n
  below-or differ (inl below) = omega arith
  below-or differ (inr past) = absurd (differ (omega arith))

  here : Dec (n ≡ k) → (k + 1 ≤ n → tally n (numbers_from (k + 1) many) ≡ stamps.once (k + 1 + many) (suc n)) →
      tally n (numbers_from k (suc many)) ≡ equal n k + tally n (numbers_from (k + 1) many) → tally n (numbers_from k (suc many)) ≡ stamps.once (k + suc many) (suc n)
  here (yes same) rest one =
      let self = subst (λ (m : ℕ). equal n m ≡ 1) same (equal-self n) in
      let none = before-all n (k + 1) many (omega arith) in
      let once = once-below (k + suc many) n (omega arith) in
      omega arith
  here (no differ) rest one =
      let none = equal-else n k differ in
      let is = rest (below-or differ (cases_lt k n)) in
      let last : k + 1 + many ≡ k + suc many = omega arith in
      let same = ap (λ (m : ℕ). stamps.once m (suc n)) last in
      omega arith

pub counted : (n many : ℕ) → tally n (numbers_from 0 many) ≡ stamps.once many (suc n)
counted n many =
    let none : 0 + many ≡ many = omega arith in
    counted-from n 0 many (omega arith) ∙ ap (λ (m : ℕ). stamps.once m (suc n)) none

module _ {A : Type 0} (number : A → ℕ) where
  -- the number after an element's
  abbrev after : A → ℕ
  after x = number x + 1

  -- as often as the numbers are those after them
  shifted : (n : ℕ) (xs : List A) → stamps.tally (suc n) (map after xs) ≡ tally n (map number xs)
  shifted n [] = refl
  shifted n (x ∷ xs) = here (ℕ_discrete n (number x)) (shifted n xs) (tally-cons n (number x) (map number xs)) where
    here : Dec (n ≡ number x) → stamps.tally (suc n) (map after xs) ≡ tally n (map number xs) →
        tally n (number x ∷ map number xs) ≡ equal n (number x) + tally n (map number xs) →
        stamps.equal (suc n) (number x + 1) + stamps.tally (suc n) (map after xs) ≡ tally n (number x ∷ map number xs)
    here (yes same) rest more =
        let next : suc n ≡ number x + 1 = omega arith in
        let one = subst (λ (k : ℕ). stamps.equal (suc n) k ≡ 1) next (stamped.equal-self (suc n)) in
        let one' = subst (λ (k : ℕ). equal n k ≡ 1) same (equal-self n) in
        omega arith
    here (no differ) rest more =
        let none = stamped.equal-else (suc n) (number x + 1) (λ same. differ (omega arith)) in
        let none' = equal-else n (number x) differ in
        omega arith

  none-first : (xs : List A) → stamps.tally 0 (map after xs) ≡ 0
  none-first [] = refl
  none-first (x ∷ xs) =
      let rest = none-first xs in
      let none = stamped.equal-else 0 (number x + 1) (λ same. omega arith) in
      omega arith

  each-once : (xs : List A) → ((n : ℕ) → tally n (map number xs) ≡ tally n (numbers_from 0 (length xs))) →
      stamps.EachOnceTo (length xs) (map after xs)
  each-once xs same zero = none-first xs
  each-once xs same (suc n) = shifted n xs ∙ same n ∙ counted n (length xs)

  -- sorted, each stands at the place of its number
  pub in-place : (xs ys : List A) → ((n : ℕ) → tally n (map number xs) ≡ tally n (numbers_from 0 (length xs))) → IsPermutation xs ys →
      length ys ≡ length xs → IsNonDecreasingBy number ys → (p : ℕ) (y : A) → slice_get ys p ≡ Some y → number y ≡ p
  in-place xs ys same moved long up p y there =
      let rises : IsNonDecreasingBy after ys = λ i j d le lt. let le' = up i j d le lt in omega arith in
      let counts = sorted-counts after xs ys (each-once xs same) moved long rises in
      let within = slice_get_within ys p y there in
      let at = counts-at after ys 0 p y counts within in
      let is = ap number (get_or_from_slice_get ys p y y there) in
      omega arith

  -- elements that stand at the places of their numbers have the numbers from the first one on
  pub numbered : (xs : List A) (k : ℕ) → ((p : ℕ) (x : A) → slice_get xs p ≡ Some x → number x ≡ k + p) → map number xs ≡ numbers_from k (length xs)
  numbered [] k each = refl
  numbered (x ∷ xs) k each =
      let first : number x ≡ k = each 0 x refl ∙ omega arith in
      let rest = numbered xs (k + 1) (λ p y there. each (suc p) y there ∙ omega arith) in
      ap (λ (n : ℕ). n ∷ map number xs) first ∙ ap (λ (ns : List ℕ). k ∷ ns) rest
