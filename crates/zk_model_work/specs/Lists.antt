use Rattle.std.specs.Prelude.{ℕ, ◌+◌, Bool, cond, Option, Some, None, List, [], ◌∷◌}

-- the places of the elements that pass, from the place n on, lowest first
abbrev pub places_from : {A : Type 0} → ℕ → (A → Bool) → List A → List ℕ
places_from n passes [] = []
places_from n passes (x ∷ xs) = cond (passes x) (n ∷ places_from (n + 1) passes xs) (places_from (n + 1) passes xs)

-- the places of the elements that pass, lowest first
abbrev pub places : {A : Type 0} → (A → Bool) → List A → List ℕ
places passes xs = places_from 0 passes xs

-- the first element
abbrev pub first : {A : Type 0} → List A → Option A
first [] = None
first (x ∷ xs) = Some x
