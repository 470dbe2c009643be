use Rattle.std.specs.Prelude.{ℕ, ◌==◌, List}
use Rattle.std.specs.List.{slice_split}
use Rattle.zk_words.specs.Bytes.{space}

-- what stands between the separators of a text, so that two of them side by side have an empty piece between them
abbrev pub pieces_between : ℕ → List ℕ → List (List ℕ)
pieces_between separator text = slice_split (λ b. b == separator) text

-- the words of a line: what stands between its spaces
abbrev pub words_of : List ℕ → List (List ℕ)
words_of line = pieces_between space line
