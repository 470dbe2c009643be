-- Inner: no contract of a top call is made of this file.
-- How often numbers stand in a list, and in what order.
use Rattle.std.specs.Prelude.{◌≡◌, ℕ, zero, suc, ◌+◌, ◌<◌, ◌==◌, nat_lt, max, if◌then◌else◌, List, [], ◌∷◌, All}

-- one where two numbers are equal
abbrev pub equal : ℕ → ℕ → ℕ
equal n m = if n == m then 1 else 0

-- how often a number stands in a list
abbrev pub tally : ℕ → List ℕ → ℕ
tally n [] = 0
tally n (m ∷ ms) = equal n m + tally n ms

-- how often a number is among those from 1 to c
abbrev pub once : ℕ → ℕ → ℕ
once c zero = 0
once c (suc n) = if nat_lt n c then 1 else 0

-- the list has each number from 1 to c once, and no other
abbrev pub EachOnceTo : ℕ → List ℕ → Type 0
EachOnceTo c ns = (n : ℕ) → tally n ns ≡ once c n

-- the numbers are those after k, one by one
abbrev pub CountsFrom : ℕ → List ℕ → Type 0
CountsFrom k [] = Unit {0}
CountsFrom k (n ∷ ns) = (n ≡ k + 1) × CountsFrom (k + 1) ns

-- each number is below those behind it
abbrev pub Rises : List ℕ → Type 0
Rises [] = Unit {0}
Rises (n ∷ ns) = All (λ m. n < m) ns × Rises ns

-- the greatest of the numbers, or 0
abbrev pub greatest : List ℕ → ℕ
greatest [] = 0
greatest (n ∷ ns) = max n (greatest ns)
