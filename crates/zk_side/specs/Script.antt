use Rattle.std.specs.Prelude.{ℕ, ◌+◌, nat_lt, if◌then◌else◌, Option, Some, None, option_map, option_and_then, Result, Ok, Err, List, [], ◌∷◌, length, codes}
use Rattle.std.specs.Str.{bytes_eq}
use Rattle.zk_words.specs.Bytes.{line_feed}
use Rattle.zk_words.specs.Numbers.{number_in}
use Rattle.zk_words.specs.Pieces.{pieces_between, words_of}
use Rattle.zk_side.specs.declared.limits.TheConstants.{GREATEST_PLAYER, LONGEST_SIDE_SCRIPT, MOST_LINES}
use Rattle.zk_side.specs.declared.refusal.Refusal.{Refusal}
use Rattle.zk_side.specs.declared.refusal.Refusal.TheVariants.{Length, Header, Line}

-- what a line asks for: its text, the word of its player, the player, and the operation
pub record Asked (O : Type 0) : Type 0 where
  pub line : List ℕ
  pub word : List ℕ
  pub player : ℕ
  pub op : O

-- a line with its word, its player and its operation
abbrev pub asked : {O : Type 0} → List ℕ → List ℕ → ℕ → O → Asked O
asked line word player op = record { line = line; word = word; player = player; op = op }

-- the words of a line: a player, and an operation, as the words behind it spell one
abbrev pub asked_by : {O : Type 0} → (List (List ℕ) → Option O) → List ℕ → List (List ℕ) → Option (Asked O)
asked_by op_of line [] = None
asked_by op_of line (word ∷ words) =
    option_and_then (λ player. option_map (asked line word player) (op_of words)) (number_in 0 GREATEST_PLAYER word)

-- the line of a number, if there may be so many
abbrev pub asked_at : {O : Type 0} → (List (List ℕ) → Option O) → ℕ → List ℕ → Option (Asked O)
asked_at op_of n line = if nat_lt MOST_LINES n then None else asked_by op_of line (words_of line)

-- the line of a number with those behind it
abbrev pub with_line : {O : Type 0} → ℕ → Option (Asked O) → Result (List (Asked O)) Refusal → Result (List (Asked O)) Refusal
with_line n None behind = Err (Line n)
with_line n (Some line) (Ok lines) = Ok (line ∷ lines)
with_line n (Some line) (Err refusal) = Err refusal

-- behind the last line feed stands nothing
abbrev pub at_end : {O : Type 0} → ℕ → List ℕ → Result (List (Asked O)) Refusal
at_end n [] = Ok []
at_end n (b ∷ bs) = Err (Line n)

-- the pieces between the line feeds, from the one of number n on
abbrev pub lines_from : {O : Type 0} → (List (List ℕ) → Option O) → ℕ → List ℕ → List (List ℕ) → Result (List (Asked O)) Refusal
lines_from op_of n piece [] = at_end n piece
lines_from op_of n piece (next ∷ more) = with_line n (asked_at op_of n piece) (lines_from op_of (n + 1) next more)

-- what stands behind the header's line feed, if it has one
abbrev pub behind_header : {O : Type 0} → (List (List ℕ) → Option O) → List (List ℕ) → Result (List (Asked O)) Refusal
behind_header op_of [] = Err Header
behind_header op_of (piece ∷ more) = lines_from op_of 2 piece more

-- the pieces between the line feeds, the header first
abbrev pub script_in : {O : Type 0} → (List (List ℕ) → Option O) → List (List ℕ) → Result (List (Asked O)) Refusal
script_in op_of [] = Err Header
script_in op_of (first ∷ more) = if bytes_eq first (codes "zx 1") then behind_header op_of more else Err Header

-- what the lines of a side script ask for, in order, or why the text is none
abbrev pub script_of : {O : Type 0} → (List (List ℕ) → Option O) → List ℕ → Result (List (Asked O)) Refusal
script_of op_of text =
    if nat_lt LONGEST_SIDE_SCRIPT (length text) then Err Length else script_in op_of (pieces_between line_feed text)
