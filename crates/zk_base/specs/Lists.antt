use Rattle.std.specs.Prelude.{Bool, if◌then◌else◌, List, [], ◌∷◌}

-- the list without the first element that passes
abbrev pub without_first : {A : Type 0} → (A → Bool) → List A → List A
without_first passes [] = []
without_first passes (x ∷ xs) = if passes x then xs else x ∷ without_first passes xs

-- the element put in before the first that passes, and behind all where none does
abbrev pub put_before : {A : Type 0} → (A → Bool) → A → List A → List A
put_before passes x [] = x ∷ []
put_before passes x (y ∷ ys) = if passes y then x ∷ y ∷ ys else y ∷ put_before passes x ys
