-- Inner: no contract of a top call is made of this file.
use Rattle.std.specs.Prelude.{◌≡◌, ℕ, ◌≤◌, Option, Some, None, Result, Ok, Err, List, [], ◌++◌, get_or, codes}
use Rattle.zk_base.specs.declared.ids.Entry.{Entry}
use Rattle.zk_base.specs.History.{IsAbove}
use Rattle.zk_side.specs.declared.limits.TheConstants.{GREATEST_PLAYER}
use Rattle.zk_side.specs.declared.refusal.Refusal.{Refusal}
use Rattle.zk_side.specs.Script.{Asked, lines_from, script_in, script_of}
use Rattle.zk_side.specs.Played.{Stage, step_of, history_with, text_with, played}

-- what a contract sees of the players: the state that their service started in, and all entries so far
pub record Standing (S O R : Type 0) : Type 0 where
  pub start : S
  pub history : List (Entry O R)

-- each player's entries are counted, and their steps are below that count
pub record AreCounted {O R : Type 0} (h : List (Entry O R)) (steps : List ℕ) : Type 0 where
  pub counted : (player : ℕ) → player ≤ GREATEST_PLAYER → get_or steps player 0 ≡ step_of h player
  pub below : (player : ℕ) → IsAbove h player (step_of h player)

-- what is put of a line that may have no form, and the history behind it
abbrev pub text_at : {S O R : Type 0} → Stage S O R → List (Entry O R) → Option (Asked O) → List ℕ
text_at stage h None = []
text_at stage h (Some line) = text_with stage h line

abbrev pub history_at : {S O R : Type 0} → Stage S O R → List (Entry O R) → Option (Asked O) → List (Entry O R)
history_at stage h None = h
history_at stage h (Some line) = history_with stage h line

-- an output, or why there is none
abbrev pub answered : Option Refusal → List ℕ → Result (List ℕ) Refusal
answered None text = Ok text
answered (Some refusal) text = Err refusal

-- the output of lines that were read, behind a text and a history
abbrev pub printed_lines : {S O R : Type 0} → Stage S O R → List (Entry O R) → List ℕ →
    Result (List (Asked O)) Refusal → Result (List ℕ) Refusal
printed_lines stage h text (Ok lines) = Ok (text ++ played stage h lines)
printed_lines stage h text (Err refusal) = Err refusal

-- the output of the pieces from the one of number n on
abbrev pub printed : {S O R : Type 0} → Stage S O R → ℕ → List (Entry O R) → List ℕ → List ℕ → List (List ℕ) →
    Result (List ℕ) Refusal
printed stage n h text piece more = printed_lines stage h text (lines_from stage.op_of n piece more)

-- the output of all pieces, the header first
abbrev pub printed_pieces : {S O R : Type 0} → Stage S O R → List ℕ → List (List ℕ) → Result (List ℕ) Refusal
printed_pieces stage text pieces = printed_lines stage [] (text ++ codes "zx 1\n") (script_in stage.op_of pieces)

-- the output of a script
abbrev pub printed_script : {S O R : Type 0} → Stage S O R → List ℕ → List ℕ → Result (List ℕ) Refusal
printed_script stage text script = printed_lines stage [] (text ++ codes "zx 1\n") (script_of stage.op_of script)
