use Rattle.std.specs.Prelude.{◌≡◌, ℕ, Bool, true, Option, Some, None, List, [], ◌∷◌, map, find, if◌then◌else◌}
use Rattle.std.specs.List.{list_all}
use Rattle.std.specs.Str.{bytes_eq}
use Rattle.zk_words.specs.declared.word.Head.{Head}
use Rattle.zk_words.specs.declared.line.Line.{Line}
use Rattle.zk_words.specs.declared.line.Line.TheVariants.{Misspelled, Formed}
use Rattle.zk_words.specs.Parts.{Placed, parts_of, fits}
use Rattle.zk_words.specs.Rows.{Form}
use Rattle.zk_words.specs.Spelled.{part_is_spelled, are_spelled}
use Rattle.zk_words.specs.Table.{heads, row_of}
use Rattle.zk_words.specs.Pieces.{words_of}

-- what a line's first word says that the line is
abbrev pub head_of : List ℕ → Option Head
head_of first = find (λ head. bytes_eq first (row_of head).first) heads

-- whether these words stand behind the first word of a form, each spelled as its slot asks
abbrev pub are_behind : Form → List (List ℕ) → Bool
are_behind form words = are_spelled form.slots form.rest words

-- a line whose first word is known, by the words behind it
abbrev pub line_behind : Head → List (List ℕ) → Line
line_behind head words =
    let form = row_of head in
    if are_behind form words then Formed head (parts_of form.slots form.rest words) else Misspelled

-- a line, by the head that its first word is
abbrev pub line_after : Option Head → List (List ℕ) → Line
line_after None words = Misspelled
line_after (Some head) words = line_behind head words

-- what the words of a line say
abbrev pub line_of_words : List (List ℕ) → Line
line_of_words [] = Misspelled
line_of_words (first ∷ words) = line_after (head_of first) words

-- what a line says by its spelling alone
abbrev pub line_of : List ℕ → Line
line_of line = line_of_words (words_of line)

-- the words of a line, its first included
abbrev pub form_words : Head → List Placed → List (List ℕ)
form_words head parts = (row_of head).first ∷ map (λ part. part.text) parts

-- the parts are words in the slots of the head's row, one for each, and each is spelled as its slot asks
pub record IsForm (head : Head) (parts : List Placed) : Type 0 where
  pub words : List (List ℕ)
  pub fitting : fits (row_of head).slots (row_of head).rest words ≡ true
  pub placed : parts ≡ parts_of (row_of head).slots (row_of head).rest words
  pub spelled : list_all part_is_spelled parts ≡ true
