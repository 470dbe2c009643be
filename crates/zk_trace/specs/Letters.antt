-- Inner: no contract of a top call is made of this file.
use Rattle.std.specs.Prelude.{◌≡◌, ℕ, false, List, ◌++◌}
use Rattle.std.specs.Str.{bytes_eq}

-- a word doesn't begin with this front, however that goes on
abbrev pub BeginsOtherwise : List ℕ → List ℕ → Type 0
BeginsOtherwise front word = (more : List ℕ) → bytes_eq word (front ++ more) ≡ false

-- it begins with this front, and goes on with this rest
abbrev pub GoesOn : List ℕ → List ℕ → List ℕ → Type 0
GoesOn front word rest = (more : List ℕ) → bytes_eq word (front ++ more) ≡ bytes_eq rest more
