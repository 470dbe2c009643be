use Rattle.std.specs.Prelude.{ℕ, ◌≤◌, nat_lt, if◌then◌else◌, List, [], ◌∷◌, All}

-- the element put in behind all whose key isn't above its own
abbrev pub put_by : {A : Type 0} → (A → ℕ) → A → List A → List A
put_by key x [] = x ∷ []
put_by key x (y ∷ rest) = if nat_lt (key x) (key y) then x ∷ y ∷ rest else y ∷ put_by key x rest

-- the elements of the second list put into the first, one after another
abbrev pub put_all_by : {A : Type 0} → (A → ℕ) → List A → List A → List A
put_all_by key sorted [] = sorted
put_all_by key sorted (x ∷ xs) = put_all_by key (put_by key x sorted) xs

-- the elements by key, the lowest first, and those of one key in the order of the list
abbrev pub by_key : {A : Type 0} → (A → ℕ) → List A → List A
by_key key xs = put_all_by key [] xs

-- no key in the list is below one before it
abbrev pub Ascends : {A : Type 0} → (A → ℕ) → List A → Type 0
Ascends key [] = Unit {0}
Ascends key (x ∷ xs) = All (λ y. key x ≤ key y) xs × Ascends key xs
