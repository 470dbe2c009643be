use Rattle.std.specs.Prelude.{ℕ, ◌-◌, ◌==◌, Bool, Option, Some, None, List, [], ◌∷◌, ◌++◌, length, take, drop, option_map, option_and_then, codes, if◌then◌else◌}
use Rattle.std.specs.Str.{bytes_eq}
use Rattle.zk_words.specs.Pieces.{words_of}
use Rattle.zk_words.specs.Text.{line_text}
use Rattle.zk_trace.specs.Exact.{equals}

-- what stands between what was asked and what was answered
abbrev pub sign : List ℕ
sign = codes " = "

-- the row of the words before the sign and the text behind it
abbrev pub sides_row : List (List ℕ) → List ℕ → List ℕ
sides_row words answer = line_text words ++ sign ++ answer

-- one byte more before the cut
abbrev pub longer : ℕ → List ℕ × List ℕ → List ℕ × List ℕ
longer b cut = (b ∷ cut.0, cut.1)

-- what stands before the first of a byte, and behind it
abbrev pub halves : ℕ → List ℕ → Option (List ℕ × List ℕ)
halves byte [] = None
halves byte (b ∷ bs) = if b == byte then Some ([], bs) else option_map (longer b) (halves byte bs)

-- what stands before the space at the end of a text
abbrev pub before_space : List ℕ → Option (List ℕ)
before_space text =
    if bytes_eq (drop (length text - 1) text) (codes " ") then Some (take (length text - 1) text) else None

-- what stands behind the space at its front
abbrev pub behind_space : List ℕ → Option (List ℕ)
behind_space text = if bytes_eq (take 1 text) (codes " ") then Some (drop 1 text) else None

-- two things
abbrev pub pair : {A B : Type 0} → A → B → A × B
pair a b = (a, b)

-- what passes a test
abbrev pub kept : {A : Type 0} → (A → Bool) → A → Option A
kept test a = if test a then Some a else None

-- both sides of an equals sign, without the spaces beside it
abbrev pub trimmed : List ℕ × List ℕ → Option (List ℕ × List ℕ)
trimmed cut = option_and_then (λ front. option_map (pair front) (behind_space cut.1)) (before_space cut.0)

-- what stands before the first sign of a row, and behind it
abbrev pub sides_of : List ℕ → Option (List ℕ × List ℕ)
sides_of row = option_and_then trimmed (halves equals row)

-- what a row says: what the words before the sign say, and what by that stands behind it
module _ {A B C : Type 0} (make : A → B → C) (front_of : List (List ℕ) → Option A) (answer_of : A → List ℕ → Option B) where
  abbrev pub said_beside : List ℕ × List ℕ → Option C
  said_beside sides = option_and_then (λ a. option_map (make a) (answer_of a sides.1)) (front_of (words_of sides.0))

  abbrev pub said_by_sides : List ℕ → Option C
  said_by_sides row = option_and_then said_beside (sides_of row)
