use Rattle.std.specs.Prelude.{◌≡◌, ◌⊎◌, ℕ, List, [], ◌∷◌, ◌++◌}
use Rattle.std.specs.List.{AllByRecursion}
use Rattle.zk_blocks.specs.Cut.{cut_of}
use Rattle.zk_words.specs.Bytes.{line_feed}
use Rattle.zk_trace.specs.declared.format.Format.{Format}
use Rattle.zk_trace.specs.Feeds.{lines_in}
use Rattle.zk_trace.specs.Text.{first_row}

-- no trace part begins with this line, in whichever format
abbrev pub IsOther : List ℕ → Type 0
IsOther line = (f : Format) → line ≡ first_row f → ⊥

-- a trace part begins here: with its first line, behind a line feed or at the front of the text
pub record BeginsTrace (front trace : List ℕ) : Type 0 where
  pub fed : (cut_of line_feed front).1 ≡ []
  pub format : Format
  pub more : List ℕ
  pub head : trace ≡ first_row format ++ line_feed ∷ more

-- a text is that of a scenario, and a trace part, which begins at the first line that a trace part begins with; where there is none,
-- all of it is the scenario's
pub record AreParts (text front trace : List ℕ) : Type 0 where
  pub whole : text ≡ front ++ trace
  pub before : AllByRecursion IsOther (lines_in front)
  pub begins : (trace ≡ []) ⊎ BeginsTrace front trace
