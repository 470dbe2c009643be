-- Inner: no contract of a top call is made of this file.
use Rattle.std.specs.Prelude.{◌≡◌, ℕ, ◌<◌, Bool, false, ◌==◌, List}
use Rattle.std.specs.List.{list_any}

-- the index is one of these
abbrev pub is_touched : List ℕ → ℕ → Bool
is_touched touched index = list_any (λ i. i == index) touched

-- of so many words each has the value that it had, but for those of these indices
abbrev pub LeavesOthers : ℕ → List ℕ → (ℕ → ℕ) → (ℕ → ℕ) → Type 0
LeavesOthers words touched old new = (index : ℕ) → index < words → is_touched touched index ≡ false → new index ≡ old index
