use Rattle.std.specs.Prelude.{ℕ, Bool, true, false, nat_lt, nat_le, ◌&&◌, if◌then◌else◌, Option, Some, None, option_map, option_and_then, List, [], ◌∷◌, length, codes}
use Rattle.std.specs.Str.{bytes_eq}
use Rattle.zk_base.specs.Limits.{most_few}
use Rattle.zk_words.specs.Numbers.{number_in}

-- whether there is no word
abbrev pub are_none : List (List ℕ) → Bool
are_none [] = true
are_none (word ∷ words) = false

-- what the only word says
abbrev pub only : {A : Type 0} → (List ℕ → Option A) → List (List ℕ) → Option A
only said (word ∷ []) = said word
only said words = None

-- whether a word is the first of two, where it is one of them
abbrev pub one_of : List ℕ → List ℕ → List ℕ → Option Bool
one_of first second word = if bytes_eq word first then Some true else if bytes_eq word second then Some false else None

-- a number in a range, or the word `none`
abbrev pub number_or_none : ℕ → ℕ → List ℕ → Option (Option ℕ)
number_or_none least most word = if bytes_eq word (codes "none") then Some None else option_map Some (number_in least most word)

-- numbers in a range, one a word
abbrev pub numbers_in : ℕ → ℕ → List (List ℕ) → Option (List ℕ)
numbers_in least most [] = Some []
numbers_in least most (word ∷ words) =
    option_and_then (λ n. option_map (λ ns. n ∷ ns) (numbers_in least most words)) (number_in least most word)

-- one to eight numbers in a range
abbrev pub few_in : ℕ → ℕ → List (List ℕ) → Option (List ℕ)
few_in least most words =
    if nat_lt 0 (length words) && nat_le (length words) most_few then numbers_in least most words else None
