-- Inner: no contract of a top call is made of this file.
-- How answered calls are kept: a row for each, and the messages and the positions of polls apart.
use Rattle.std.specs.Prelude.{ℕ, ◌≤◌, ◌<◌, Option, Some, None, List, [], ◌∷◌, length, All, slice_get}
use Rattle.zk_worker.specs.declared.answers.Answer.{Answer}
use Rattle.zk_worker.specs.declared.answers.Answer.TheVariants as answers
use Rattle.zk_worker.specs.declared.answers.Answered.{Answered}
use Rattle.zk_worker.specs.declared.answer_rows.AnswerRow.{AnswerRow}
use Rattle.zk_worker.specs.declared.answer_rows.Brief.{Brief}
use Rattle.zk_worker.specs.declared.answer_rows.Brief.TheVariants as briefs

-- what a contract sees of them: the answered calls, and for how many there is room
pub record AnswersKept : Type 0 where
  pub items : List Answered
  pub room : ℕ

-- the answer that is a message, where it is there
abbrev pub message_of : Option (List ℕ) → Answer
message_of (Some message) = answers.Bytes message
message_of None = answers.Number 0

-- the answer that is the positions of a poll's ready events, where they are there
abbrev pub positions_of : Option (List ℕ) → Answer
positions_of (Some positions) = answers.Ready positions
positions_of None = answers.Number 0

-- what a row answers, with the messages and the positions that stand apart
abbrev pub whole : List (List ℕ) → List (List ℕ) → Brief → Answer
whole messages ready (briefs.Number number) = answers.Number number
whole messages ready (briefs.Flags flags) = answers.Flags flags
whole messages ready (briefs.Truth truth) = answers.Truth truth
whole messages ready (briefs.Refused errno) = answers.Refused errno
whole messages ready (briefs.Bytes place) = message_of (slice_get messages place)
whole messages ready (briefs.Signal raised result) = answers.Signal raised result
whole messages ready (briefs.Ready place) = positions_of (slice_get ready place)
whole messages ready (briefs.Channel object) = answers.Channel object
whole messages ready (briefs.Oops why) = answers.Oops why

-- the answered call of a row
abbrev pub told : List (List ℕ) → List (List ℕ) → AnswerRow → Answered
told messages ready row = record { step = row.step; word = row.word; answer = whole messages ready row.brief }

-- what is kept of an answer, whose message or positions come to this place
abbrev pub brief_by : ℕ → ℕ → Answer → Brief
brief_by message ready (answers.Number number) = briefs.Number number
brief_by message ready (answers.Flags flags) = briefs.Flags flags
brief_by message ready (answers.Truth truth) = briefs.Truth truth
brief_by message ready (answers.Refused errno) = briefs.Refused errno
brief_by message ready (answers.Bytes bytes) = briefs.Bytes message
brief_by message ready (answers.Signal raised result) = briefs.Signal raised result
brief_by message ready (answers.Ready positions) = briefs.Ready ready
brief_by message ready (answers.Channel object) = briefs.Channel object
brief_by message ready (answers.Oops why) = briefs.Oops why

-- the message that is kept apart of an answer, if it has one
abbrev pub messages_in : Answer → List (List ℕ)
messages_in (answers.Bytes message) = message ∷ []
messages_in answer = []

-- the positions that are kept apart of an answer, if it has some
abbrev pub ready_in : Answer → List (List ℕ)
ready_in (answers.Ready positions) = positions ∷ []
ready_in answer = []

-- the message or the positions of a row are among so many
abbrev pub IsApart : ℕ → ℕ → Brief → Type 0
IsApart messages ready (briefs.Bytes place) = place < messages
IsApart messages ready (briefs.Ready place) = place < ready
IsApart messages ready brief = Unit {0}

-- all is there that a row has apart, and there are no more messages or positions than rows
pub record AreKept (messages ready : List (List ℕ)) (rows : List AnswerRow) : Type 0 where
  pub there : All (λ row. IsApart (length messages) (length ready) row.brief) rows
  pub few : length messages ≤ length rows
  pub few_ready : length ready ≤ length rows
