use Rattle.std.specs.Prelude.{ℕ, ◌^◌, ◌<◌, ◌≡◌, Bool, true, Option, Some, None, ◌⊎◌, List, [], ◌∷◌, option_map, option_and_then, decimal}
use Rattle.std.specs.Option.{option_or}
use Rattle.zk_base.specs.declared.errors.Errno.{Errno}
use Rattle.zk_base.specs.declared.errors.Errno.TheVariants.{Busy, Again, Inval, NoDev, NoMsg, Already, Fault}
use Rattle.zk_words.specs.declared.word.Word.{Word}
use Rattle.zk_words.specs.declared.word.Word.TheVariants as words
use Rattle.zk_words.specs.declared.word.Head.{Head}
use Rattle.zk_words.specs.declared.word.Head.TheVariants.{Call}
use Rattle.zk_words.specs.Hex.{msg_of}
use Rattle.zk_words.specs.Lines.{head_of}
use Rattle.zk_words.specs.Pieces.{words_of}
use Rattle.zk_line.specs.declared.types.Decl.{Decl}
use Rattle.zk_line.specs.Objects.{is_chan}
use Rattle.zk_worker.specs.declared.answers.Answer.{Answer}
use Rattle.zk_worker.specs.declared.answers.Answer.TheVariants as answers
use Rattle.zk_worker.specs.declared.answers.Answered.{Answered}
use Rattle.zk_blocks.specs.Choices.{IsIn}
use Rattle.zk_trace.specs.Fields.{named, two, wide_of, narrow_of, short_of, flags_of, truth_of, ready_of, oops_of, chan_of, IsOf, IsMessage, ArePositions}
use Rattle.zk_trace.specs.LookRead.{raised_of, can_be}
use Rattle.zk_trace.specs.Parts.{part_word, answer_part}
use Rattle.zk_trace.specs.Sides.{sides_row, pair, kept, said_by_sides}
use Rattle.zk_trace.specs.Words.{errno_word, call_word}

-- the call of a line's head, where it is one
abbrev pub call_in : Head → Option Word
call_in (Call word) = Some word
call_in head = None

-- a call, as it is spelled in a scenario
abbrev pub call_of : List ℕ → Option Word
call_of word = option_and_then call_in (head_of word)

-- with what a call can be refused
abbrev pub refusals : Word → List Errno
refusals words.Submit = Busy ∷ Inval ∷ NoDev ∷ []
refusals words.Schedule = Busy ∷ NoDev ∷ []
refusals words.Reschedule = Busy ∷ NoDev ∷ []
refusals words.Start = Already ∷ []
refusals words.Unplug = Already ∷ []
refusals words.Stop = Already ∷ Busy ∷ []
refusals words.Take = Busy ∷ Again ∷ []
refusals words.Put = NoMsg ∷ Again ∷ []
refusals words.PutFront = NoMsg ∷ []
refusals words.Get = NoMsg ∷ Again ∷ []
refusals words.Peek = NoMsg ∷ []
refusals words.PeekAt = NoMsg ∷ []
refusals words.Poll = Again ∷ []
refusals words.Claim = Busy ∷ Again ∷ []
refusals words.Finish = Inval ∷ []
refusals words.Publish = NoMsg ∷ Busy ∷ Again ∷ Fault ∷ []
refusals words.Notify = Busy ∷ Again ∷ Fault ∷ []
refusals words.Read = Busy ∷ Again ∷ []
refusals words.Mask = Inval ∷ []
refusals words.SubWait = NoMsg ∷ Again ∷ []
refusals words.Init = Already ∷ []
refusals word = []

-- a refusal of a call
abbrev pub refusal_of : Word → List ℕ → Option Answer
refusal_of word row = option_map answers.Refused (named errno_word (refusals word) row)

abbrev pub IsRefusal : Word → Answer → Type 0
IsRefusal word (answers.Refused errno) = IsIn errno (refusals word)
IsRefusal word answer = ⊥

-- a check that failed, which it can at each call
abbrev pub oops_answer : List ℕ → Option Answer
oops_answer row = option_map answers.Oops (oops_of row)

abbrev pub IsOops : Answer → Type 0
IsOops (answers.Oops why) = Unit {0}
IsOops answer = ⊥

-- busy flags
abbrev pub flags_answer : List ℕ → Option Answer
flags_answer row = option_map answers.Flags (flags_of row)

abbrev pub IsFlags : Answer → Type 0
IsFlags (answers.Flags flags) = flags < 32
IsFlags answer = ⊥

-- a truth value
abbrev pub truth_answer : List ℕ → Option Answer
truth_answer row = option_map answers.Truth (truth_of row)

abbrev pub IsTruth : Answer → Type 0
IsTruth (answers.Truth truth) = Unit {0}
IsTruth answer = ⊥

-- a message
abbrev pub bytes_answer : List ℕ → Option Answer
bytes_answer row = option_map answers.Bytes (msg_of row)

abbrev pub IsBytes : Answer → Type 0
IsBytes (answers.Bytes message) = IsMessage message
IsBytes answer = ⊥

-- what a signal was: one that is clear has no result
abbrev pub can_be_value : Bool × ℕ → Bool
can_be_value value = can_be value.0 value.1

abbrev pub value_words_of : List (List ℕ) → Option (Bool × ℕ)
value_words_of words = two pair raised_of short_of words

abbrev pub signal_value : Bool × ℕ → Answer
signal_value value = answers.Signal value.0 value.1

abbrev pub signal_answer : List ℕ → Option Answer
signal_answer row =
    option_map signal_value (option_and_then (kept can_be_value) (value_words_of (words_of row)))

abbrev pub IsSignal : Answer → Type 0
IsSignal (answers.Signal raised value) = (can_be raised value ≡ true) × (value < 2 ^ 16)
IsSignal answer = ⊥

-- the events of a poll that are ready
abbrev pub ready_answer : List ℕ → Option Answer
ready_answer row = option_map answers.Ready (ready_of row)

abbrev pub IsReady : Answer → Type 0
IsReady (answers.Ready positions) = ArePositions positions
IsReady answer = ⊥

-- a channel, by its name
abbrev pub channel_answer : List Decl → List ℕ → Option Answer
channel_answer decls row = option_map answers.Channel (chan_of decls row)

abbrev pub IsChannel : List Decl → Answer → Type 0
IsChannel decls (answers.Channel channel) = IsOf is_chan decls channel
IsChannel decls answer = ⊥

-- a number
abbrev pub number_answer : List ℕ → Option Answer
number_answer row = option_map answers.Number (wide_of row)

abbrev pub IsNumber : Answer → Type 0
IsNumber (answers.Number number) = number < 2 ^ 64
IsNumber answer = ⊥

-- what a call answers that is neither refused nor fails a check: most a number
abbrev pub value_of : List Decl → Word → List ℕ → Option Answer
value_of decls words.Cancel row = flags_answer row
value_of decls words.Busy row = flags_answer row
value_of decls words.CancelSync row = truth_answer row
value_of decls words.Flush row = truth_answer row
value_of decls words.Get row = bytes_answer row
value_of decls words.Peek row = bytes_answer row
value_of decls words.PeekAt row = bytes_answer row
value_of decls words.Read row = bytes_answer row
value_of decls words.Check row = signal_answer row
value_of decls words.Poll row = ready_answer row
value_of decls words.SubWait row = channel_answer decls row
value_of decls word row = number_answer row

-- which those are
abbrev pub IsValue : List Decl → Word → Answer → Type 0
IsValue decls words.Cancel answer = IsFlags answer
IsValue decls words.Busy answer = IsFlags answer
IsValue decls words.CancelSync answer = IsTruth answer
IsValue decls words.Flush answer = IsTruth answer
IsValue decls words.Get answer = IsBytes answer
IsValue decls words.Peek answer = IsBytes answer
IsValue decls words.PeekAt answer = IsBytes answer
IsValue decls words.Read answer = IsBytes answer
IsValue decls words.Check answer = IsSignal answer
IsValue decls words.Poll answer = IsReady answer
IsValue decls words.SubWait answer = IsChannel decls answer
IsValue decls word answer = IsNumber answer

-- what stands behind the sign
abbrev pub answer_row : List Decl → Answer → List ℕ
answer_row decls answer = part_word decls (answer_part answer)

-- the answer to a call that stands behind the sign
abbrev pub answer_of : List Decl → Word → List ℕ → Option Answer
answer_of decls word row = option_or (refusal_of word row) (option_or (oops_answer row) (value_of decls word row))

-- a call can answer so
abbrev pub FitsAnswer : List Decl → Word → Answer → Type 0
FitsAnswer decls word answer = IsRefusal word answer ⊎ (IsOops answer ⊎ IsValue decls word answer)

-- Lines of answers.

-- the words before the sign: the number of the call's last step, and its word
abbrev pub answered_front : ℕ × Word → List (List ℕ)
answered_front front = decimal front.0 ∷ call_word front.1 ∷ []

abbrev pub answered_front_of : List (List ℕ) → Option (ℕ × Word)
answered_front_of words = two pair narrow_of call_of words

-- a call that has its answer, and its line without the feed
abbrev pub answered : ℕ × Word → Answer → Answered
answered front answer = record { step = front.0; word = front.1; answer = answer }

abbrev pub answered_row : List Decl → Answered → List ℕ
answered_row decls a = sides_row (answered_front (a.step, a.word)) (answer_row decls a.answer)

-- the call and its answer that a line says
abbrev pub answered_of : List Decl → List ℕ → Option Answered
answered_of decls row = said_by_sides answered answered_front_of (λ front. answer_of decls front.1) row

-- its step's number fits its type, and its call can answer so
pub record IsAnswered (decls : List Decl) (a : Answered) : Type 0 where
  pub step : a.step < 2 ^ 32
  pub answer : FitsAnswer decls a.word a.answer
