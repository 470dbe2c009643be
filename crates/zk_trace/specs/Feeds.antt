use Rattle.std.specs.Prelude.{ℕ, List}
use Rattle.zk_blocks.specs.Cut.{cut_of}
use Rattle.zk_words.specs.Bytes.{line_feed}

-- the lines of a text that have their line feed
abbrev pub lines_in : List ℕ → List (List ℕ)
lines_in text = (cut_of line_feed text).0
