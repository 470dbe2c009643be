use Rattle.std.specs.Prelude.{◌≡◌, Bool, Option, Some, None, ◌⊎◌, List, [], ◌∷◌, if◌then◌else◌}

-- what a word says: the first of some things that is written so, else what else it may be
abbrev pub one_of : {W R : Type 0} → (W → W → Bool) → (R → W) → (W → Option R) → List R → W → Option R
one_of same text else_of [] word = else_of word
one_of same text else_of (r ∷ rs) word = if same word (text r) then Some r else one_of same text else_of rs word

-- nothing else
abbrev pub nothing_else : {W R : Type 0} → W → Option R
nothing_else word = None

-- it is one of some
abbrev pub IsIn : {R : Type 0} → R → List R → Type 0
IsIn x [] = ⊥
IsIn x (r ∷ rs) = (x ≡ r) ⊎ IsIn x rs

-- it is one of some, or else fits
abbrev pub FitsOneOf : {R : Type 0} → List R → (R → Type 0) → R → Type 0
FitsOneOf rs FitsElse x = IsIn x rs ⊎ FitsElse x
