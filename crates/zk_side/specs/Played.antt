use Rattle.std.specs.Prelude.{ℕ, pos, ◌==◌, Option, Some, None, List, [], ◌∷◌, ◌++◌, length, drop, count_by, codes, decimal}
use Rattle.zk_base.specs.declared.ids.Who.{Who}
use Rattle.zk_base.specs.declared.ids.Entry.{Entry}
use Rattle.zk_base.specs.History.{extended}
use Rattle.zk_base.specs.Legal.{Machine, state_after}
use Rattle.zk_side.specs.Script.{Asked}

-- what side scripts are played on: a machine, the state that it starts in, what the words of an operation spell,
-- and the text of a reply
pub record Stage (S O R : Type 0) : Type 0 where
  pub machine : Machine S O R
  pub start : S
  pub op_of : List (List ℕ) → Option O
  pub reply_text : R → List ℕ

-- the stage of these
abbrev pub stage_of : {S O R : Type 0} → Machine S O R → S → (List (List ℕ) → Option O) → (R → List ℕ) → Stage S O R
stage_of machine start op_of reply_text =
    record { machine = machine; start = start; op_of = op_of; reply_text = reply_text }

-- a player of a side script, who has the priority 0
abbrev pub who_of : ℕ → Who
who_of player = record { number = player; prio = pos 0 }

-- the step of a player's next entry: how many it has
abbrev pub step_of : {O R : Type 0} → List (Entry O R) → ℕ → ℕ
step_of h player = count_by (λ e. e.who.number == player) h

-- the reply to a line behind a history, nothing where its operation isn't possible
abbrev pub reply_to : {S O R : Type 0} → Stage S O R → List (Entry O R) → Asked O → Option R
reply_to stage h line = stage.machine.reply_of (state_after stage.machine stage.start h) (who_of line.player) line.op

-- the history behind it: an entry more where there is a reply
abbrev pub history_with : {S O R : Type 0} → Stage S O R → List (Entry O R) → Asked O → List (Entry O R)
history_with stage h line = extended h (who_of line.player) (step_of h line.player) line.op (reply_to stage h line)

-- `PLAYER.STEP OPERATION ARGUMENTS = REPLY`: the step behind the player's word, and the rest of the line as it was read
abbrev pub entry_line : List ℕ → ℕ → List ℕ → List ℕ → List ℕ
entry_line word step rest reply = word ++ codes "." ++ decimal step ++ rest ++ codes " = " ++ reply ++ codes "\n"

-- the line as it was read, with no reply
abbrev pub none_line : List ℕ → List ℕ
none_line line = line ++ codes " = none\n"

-- what is printed of a line, by its step and its reply
abbrev pub line_text : {O R : Type 0} → (R → List ℕ) → Asked O → ℕ → Option R → List ℕ
line_text reply_text line step None = none_line line.line
line_text reply_text line step (Some reply) =
    entry_line line.word step (drop (length line.word) line.line) (reply_text reply)

-- what is printed of a line behind a history
abbrev pub text_with : {S O R : Type 0} → Stage S O R → List (Entry O R) → Asked O → List ℕ
text_with stage h line = line_text stage.reply_text line (step_of h line.player) (reply_to stage h line)

-- what is printed of the lines, played in order behind a history
abbrev pub played : {S O R : Type 0} → Stage S O R → List (Entry O R) → List (Asked O) → List ℕ
played stage h [] = []
played stage h (line ∷ lines) = text_with stage h line ++ played stage (history_with stage h line) lines
