-- Inner: no contract of a top call is made of this file.
use Rattle.std.specs.Prelude.{◌≢◌, Bool, true, false, List, [], ◌∷◌, if◌then◌else◌}
use Rattle.std.specs.List.{AllByRecursion}

-- none of some is this
abbrev pub IsNone : {W : Type 0} → W → List W → Type 0
IsNone word words = AllByRecursion (λ other. word ≢ other) words

-- no two of some are the same
abbrev pub AreApart : {W : Type 0} → List W → Type 0
AreApart [] = Unit {0}
AreApart (word ∷ words) = IsNone word words × AreApart words

-- whether none of some is this
abbrev pub is_none_of : {W : Type 0} → (W → W → Bool) → W → List W → Bool
is_none_of same word [] = true
is_none_of same word (other ∷ words) = if same word other then false else is_none_of same word words

-- whether no two of some are the same
abbrev pub all_apart : {W : Type 0} → (W → W → Bool) → List W → Bool
all_apart same [] = true
all_apart same (word ∷ words) = if is_none_of same word words then all_apart same words else false
