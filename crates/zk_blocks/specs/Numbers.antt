-- Inner: no contract of a top call is made of this file.
use Rattle.std.specs.Prelude.{◌≡◌, ℕ, ◌+◌, List, [], ◌∷◌, ◌++◌, length}

-- how many lines the first blocks have
abbrev pub lines_of_first : {L X : Type 0} → (X → List L) → List X → ℕ
lines_of_first lines_of [] = 0
lines_of_first lines_of (x ∷ xs) = length (lines_of x) + lines_of_first lines_of xs

-- this line is at this place, with so many before it
pub record StandsAt {L : Type 0} (lines : List L) (place : ℕ) (line : L) : Type 0 where
  pub before : List L
  pub more : List L
  pub whole : lines ≡ before ++ line ∷ more
  pub at : length before ≡ place
