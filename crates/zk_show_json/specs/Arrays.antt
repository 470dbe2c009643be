use Rattle.std.specs.Prelude.{ℕ, Bool, true, false, List, [], ◌∷◌, ◌++◌, codes, if◌then◌else◌}

-- what stands before a part: a comma, where another part stands before it
abbrev pub comma : Bool → List ℕ
comma begun = if begun then codes "," else []

-- parts, with a comma between two; and one before the first, where there are others before it
abbrev pub parts : {X : Type 0} → (X → List ℕ) → Bool → List X → List ℕ
parts text begun [] = []
parts text begun (x ∷ xs) = comma begun ++ text x ++ parts text true xs

-- an array of parts
abbrev pub array : {X : Type 0} → (X → List ℕ) → List X → List ℕ
array text xs = codes "[" ++ parts text false xs ++ codes "]"
