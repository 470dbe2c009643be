-- What a list contains.
use Rattle.std.proofs.Common.{◌≡◌, ◌⊎◌, inl, inr, ℕ, zero, suc, ◌<◌, Bool, true, false, ◌||◌, eqb, List, [], ◌∷◌, length, get_or, Contains, refl, arith}
use Rattle.std.specs.List.{concat}
use Rattle.std.proofs.lemmas.Bool.{eqb-true, eq-eqb, or_cases, or_left, or_right}
use Rattle.std.proofs.lemmas.List.Elements.{Contains-append_left, Contains-append_right, Contains-append_cases}

pub contains-here : {X : Type 0} (x : X) (xs : List X) → Contains (x ∷ xs) x
contains-here x xs = (0, omega arith, refl)

pub contains-there : {X : Type 0} (y : X) (xs : List X) (x : X) → Contains xs x → Contains (y ∷ xs) x
contains-there y xs x (k, within, is) = (suc k, omega arith, is)

pub contains-cases : {X : Type 0} (y : X) (xs : List X) (x : X) → Contains (y ∷ xs) x → (y ≡ x) ⊎ Contains xs x
contains-cases y xs x (zero, within, is) = inl is
contains-cases y xs x (suc k, within, is) = inr (k, (omega arith), is)

pub contains-none : {X : Type 0} (x : X) → Contains [] x → ⊥
contains-none x there = let within = there.1 in absurd (omega arith)

-- whether a list of numbers contains a number
abbrev pub has : List ℕ → ℕ → Bool
has [] n = false
has (x ∷ xs) n = eqb x n || has xs n

pub has-yes : (xs : List ℕ) (n : ℕ) → Contains xs n → has xs n ≡ true
has-yes [] n there = absurd (contains-none n there)
has-yes (x ∷ xs) n there = elim (contains-cases x xs n there) [
  | inl is ↦ or_left (eqb x n) (has xs n) (eq-eqb x n is)
  | inr more ↦ or_right (eqb x n) (has xs n) (has-yes xs n more)
]

pub has-no : (xs : List ℕ) (n : ℕ) → has xs n ≡ true → Contains xs n
has-no [] n is = absurd (cc)
has-no (x ∷ xs) n is = elim (or_cases (eqb x n) (has xs n) is) [
  | inl here ↦ let same = eqb-true x n here in (0, omega arith, same)
  | inr more ↦ contains-there x xs n (has-no xs n more)
]

-- what joined lists contain stands in one of them
pub contains-joined : (lists : List (List ℕ)) (n : ℕ) → Contains (concat lists) n →
    (k : ℕ) × (k < length lists) × Contains (get_or lists k []) n
contains-joined [] n there = absurd (contains-none n there)
contains-joined (l ∷ ls) n there = elim (Contains-append_cases l (concat ls) n there) [
  | inl here ↦ (0, omega arith, here)
  | inr more ↦ later (contains-joined ls n more)
] where
  later : (k : ℕ) × (k < length ls) × Contains (get_or ls k []) n →
      (k : ℕ) × (k < length (l ∷ ls)) × Contains (get_or (l ∷ ls) k []) n
  later (k, within, there) = (suc k, omega arith, there)

pub joined-contains : (lists : List (List ℕ)) (k n : ℕ) → k < length lists → Contains (get_or lists k []) n → Contains (concat lists) n
joined-contains [] k n within there = absurd (omega arith)
joined-contains (l ∷ ls) zero n within there = Contains-append_left l (concat ls) n there
joined-contains (l ∷ ls) (suc k) n within there =
    Contains-append_right l (concat ls) n (joined-contains ls k n (omega arith) there)
