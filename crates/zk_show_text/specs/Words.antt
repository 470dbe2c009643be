use Rattle.std.specs.Prelude.{ℕ, ◌==◌, ◌+◌, List, [], ◌∷◌, ◌++◌, take, drop, Option, Some, None, position, codes, if◌then◌else◌}
use Rattle.std.specs.Str.{bytes_eq}

-- what stands before the first space, by its place
abbrev pub before : List ℕ → Option ℕ → List ℕ
before text None = text
before text (Some space) = take space text

-- and behind it
abbrev pub behind : List ℕ → Option ℕ → List ℕ
behind text None = []
behind text (Some space) = drop (space + 1) text

-- the first word of a text
abbrev pub first_word : List ℕ → List ℕ
first_word text = before text (position (λ c. c == 32) text)

-- what stands behind the first word
abbrev pub more_words : List ℕ → List ℕ
more_words text = behind text (position (λ c. c == 32) text)

-- what a line of a trace says of a step, without whose it is and which
abbrev pub words_of : List ℕ → List ℕ
words_of text =
    if bytes_eq (first_word text) (codes "look") then codes "look " ++ more_words (more_words text) else more_words text
