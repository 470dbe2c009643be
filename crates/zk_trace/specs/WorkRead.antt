use Rattle.std.specs.Prelude.{ℕ, ◌^◌, ◌<◌, Bool, true, false, Option, None, ◌⊎◌, List, [], ◌∷◌, map, option_map, option_and_then, if◌then◌else◌}
use Rattle.std.specs.Cmp.Lexicographic.{pointwise}
use Rattle.std.specs.List.{AllByRecursion}
use Rattle.std.specs.Str.{bytes_eq}
use Rattle.zk_base.specs.declared.errors.Errno.TheVariants.{Busy, Inval, NoDev}
use Rattle.zk_words.specs.Bytes.{colon}
use Rattle.zk_words.specs.Pieces.{pieces_between, words_of}
use Rattle.zk_words.specs.Text.{line_text}
use Rattle.zk_line.specs.declared.types.Decl.{Decl}
use Rattle.zk_model_work.specs.declared.ops.Expiry.{Expiry}
use Rattle.zk_model_work.specs.declared.ops.Submitted.{Submitted}
use Rattle.zk_model_work.specs.declared.ops.Submitted.TheVariants as submissions
use Rattle.zk_model_work.specs.declared.ops.WorkOp.{WorkOp}
use Rattle.zk_model_work.specs.declared.ops.WorkOp.TheVariants as ops
use Rattle.zk_model_work.specs.declared.ops.WorkReply.{WorkReply}
use Rattle.zk_model_work.specs.declared.ops.WorkReply.TheVariants as replies
use Rattle.zk_trace.specs.declared.parts.FixedWord.TheVariants.{One, Two, Wait, Now}
use Rattle.zk_trace.specs.declared.work.Verb.{Verb}
use Rattle.zk_trace.specs.declared.work.Verb.TheVariants as verbs
use Rattle.zk_blocks.specs.Choices.{one_of, IsIn}
use Rattle.zk_trace.specs.Fields.{named, one, two, three, each_of, said_behind, said_by, wide_of, narrow_of, admission_of, item_of, queue_of, target_of, plug_of, flags_of, IsItem, IsQueue, IsTarget}
use Rattle.zk_trace.specs.Parts.{part_word, fixed_word}
use Rattle.zk_trace.specs.Work.{verb_word, submitted_parts, reply_words}

-- all verbs
abbrev pub all_verbs : List Verb
all_verbs =
    verbs.Submit ∷ verbs.Cancel ∷ verbs.CancelStart ∷ verbs.CancelDone ∷ verbs.FlushStart ∷ verbs.FlushDone
    ∷ verbs.Schedule ∷ verbs.Reschedule ∷ verbs.Remaining ∷ verbs.Start ∷ verbs.DrainStart ∷ verbs.DrainDone
    ∷ verbs.Unplug ∷ verbs.Stop ∷ verbs.Announce ∷ verbs.Begin ∷ verbs.End ∷ []

-- the verb of a word
abbrev pub verb_of : List ℕ → Option Verb
verb_of word = named verb_word all_verbs word

-- the operation of a verb and the words behind it
abbrev pub op_behind : List Decl → Verb → List (List ℕ) → Option WorkOp
op_behind decls verbs.Submit words = two ops.Submit (item_of decls) (target_of decls) words
op_behind decls verbs.Cancel words = one ops.Cancel (item_of decls) words
op_behind decls verbs.CancelStart words = one ops.CancelStart (item_of decls) words
op_behind decls verbs.CancelDone words = one ops.CancelDone wide_of words
op_behind decls verbs.FlushStart words = one ops.FlushStart (item_of decls) words
op_behind decls verbs.FlushDone words = one ops.FlushDone wide_of words
op_behind decls verbs.Schedule words = three ops.Schedule (item_of decls) (queue_of decls) narrow_of words
op_behind decls verbs.Reschedule words = three ops.Reschedule (item_of decls) (queue_of decls) narrow_of words
op_behind decls verbs.Remaining words = one ops.Remaining (item_of decls) words
op_behind decls verbs.Start words = one ops.Start (queue_of decls) words
op_behind decls verbs.DrainStart words = two ops.DrainStart (queue_of decls) plug_of words
op_behind decls verbs.DrainDone words = one ops.DrainDone wide_of words
op_behind decls verbs.Unplug words = one ops.Unplug (queue_of decls) words
op_behind decls verbs.Stop words = one ops.Stop (queue_of decls) words
op_behind decls verbs.Announce words = one ops.Announce narrow_of words
op_behind decls verbs.Begin words = one ops.Begin (queue_of decls) words
op_behind decls verbs.End words = one ops.End (queue_of decls) words

-- the operation that some words say
abbrev pub op_of : List Decl → List (List ℕ) → Option WorkOp
op_of decls words = said_by verb_word all_verbs (op_behind decls) words

-- what it names is declared, and its numbers fit their types
abbrev pub FitsOp : List Decl → WorkOp → Type 0
FitsOp decls (ops.Submit item queue) = IsItem decls item × IsTarget decls queue
FitsOp decls (ops.Cancel item) = IsItem decls item
FitsOp decls (ops.CancelStart item) = IsItem decls item
FitsOp decls (ops.CancelDone place) = place < 2 ^ 64
FitsOp decls (ops.FlushStart item) = IsItem decls item
FitsOp decls (ops.FlushDone place) = place < 2 ^ 64
FitsOp decls (ops.Schedule item queue delay) = IsItem decls item × IsQueue decls queue × (delay < 2 ^ 32)
FitsOp decls (ops.Reschedule item queue delay) = IsItem decls item × IsQueue decls queue × (delay < 2 ^ 32)
FitsOp decls (ops.Remaining item) = IsItem decls item
FitsOp decls (ops.Start queue) = IsQueue decls queue
FitsOp decls (ops.DrainStart queue plug) = IsQueue decls queue
FitsOp decls (ops.DrainDone place) = place < 2 ^ 64
FitsOp decls (ops.Unplug queue) = IsQueue decls queue
FitsOp decls (ops.Stop queue) = IsQueue decls queue
FitsOp decls (ops.Announce ticks) = ticks < 2 ^ 32
FitsOp decls (ops.Begin queue) = IsQueue decls queue
FitsOp decls (ops.End queue) = IsQueue decls queue

-- Submissions.

-- the words of what became of one
abbrev pub submitted_words : List Decl → Submitted → List (List ℕ)
submitted_words decls submitted = map (part_word decls) (submitted_parts submitted)

-- what was admitted, by its words: the answer, the number of the admission and the queue
abbrev pub admitted_of : List Decl → List (List ℕ) → Option Submitted
admitted_of decls [] = None
admitted_of decls (answer ∷ words) =
    if bytes_eq answer (fixed_word One) then two submissions.Fresh admission_of (queue_of decls) words else
    if bytes_eq answer (fixed_word Two) then two submissions.Rerun admission_of (queue_of decls) words else None

-- it was admitted, with a number of its type and a queue that is declared
abbrev pub FitsAdmitted : List Decl → Submitted → Type 0
FitsAdmitted decls (submissions.Fresh admission queue) = (admission < 2 ^ 64) × IsQueue decls queue
FitsAdmitted decls (submissions.Rerun admission queue) = (admission < 2 ^ 64) × IsQueue decls queue
FitsAdmitted decls submitted = ⊥

-- Delays that ended.

-- what can become of the submission, other than that it is admitted
abbrev pub fixed_submissions : List Submitted
fixed_submissions = submissions.Already ∷ submissions.Refused Busy ∷ submissions.Refused NoDev ∷ []

-- whether two rows of words are the same
abbrev pub words_eq : List (List ℕ) → List (List ℕ) → Bool
words_eq words other = pointwise bytes_eq words other

-- what became of the submission, by its words
abbrev pub submission_of : List Decl → List (List ℕ) → Option Submitted
submission_of decls words = one_of words_eq (submitted_words decls) (admitted_of decls) fixed_submissions words

-- it can become so
abbrev pub IsSubmission : List Decl → Submitted → Type 0
IsSubmission decls submitted = IsIn submitted fixed_submissions ⊎ FitsAdmitted decls submitted

-- an item whose delay ended, and what became of its submission
abbrev pub expiry : ℕ → Submitted → Expiry
expiry item submitted = record { item = item; submitted = submitted }

-- the same, by its words
abbrev pub expiry_by : List Decl → List (List ℕ) → Option Expiry
expiry_by decls [] = None
expiry_by decls (item ∷ words) =
    option_and_then (λ i. option_map (λ s. expiry i s) (submission_of decls words)) (item_of decls item)

-- the same, by its words with colons between them
abbrev pub expiry_of : List Decl → List ℕ → Option Expiry
expiry_of decls word = expiry_by decls (pieces_between colon word)

-- the item is declared, and its submission can become so
abbrev pub IsExpiry : List Decl → Expiry → Type 0
IsExpiry decls e = IsItem decls e.item × IsSubmission decls e.submitted

-- the time, and the delays that ended
abbrev pub now_of : List Decl → List (List ℕ) → Option WorkReply
now_of decls [] = None
now_of decls (time ∷ words) =
    option_and_then (λ t. option_map (λ ended. replies.Now t ended) (each_of (expiry_of decls) words)) (wide_of time)

-- Replies.

-- the replies to an operation of a verb that are the same in each line
abbrev pub fixed_replies : Verb → List WorkReply
fixed_replies verbs.Submit =
    replies.Sub submissions.Already ∷ replies.Sub (submissions.Refused Busy)
    ∷ replies.Sub (submissions.Refused Inval) ∷ replies.Sub (submissions.Refused NoDev) ∷ []
fixed_replies verbs.CancelStart = replies.Wait ∷ replies.Truth true ∷ replies.Truth false ∷ []
fixed_replies verbs.CancelDone = replies.Truth true ∷ replies.Truth false ∷ []
fixed_replies verbs.FlushStart = replies.Truth true ∷ replies.Truth false ∷ []
fixed_replies verbs.FlushDone = replies.Truth true ∷ replies.Truth false ∷ []
fixed_replies verbs.Schedule =
    replies.Sub submissions.Already ∷ replies.Armed
    ∷ replies.Sub (submissions.Refused Busy) ∷ replies.Sub (submissions.Refused NoDev) ∷ []
fixed_replies verbs.Reschedule =
    replies.Sub submissions.Already ∷ replies.Armed
    ∷ replies.Sub (submissions.Refused Busy) ∷ replies.Sub (submissions.Refused NoDev) ∷ []
fixed_replies verbs.Start = replies.Done ∷ replies.Already ∷ []
fixed_replies verbs.DrainStart = replies.Wait ∷ []
fixed_replies verbs.Unplug = replies.Done ∷ replies.Already ∷ []
fixed_replies verbs.Stop = replies.Done ∷ replies.Already ∷ replies.Busy ∷ []
fixed_replies verbs.End = replies.Done ∷ []
fixed_replies verb = []

-- a submission that was admitted, by what stands behind the sign
abbrev pub sub_of : List Decl → List ℕ → Option WorkReply
sub_of decls row = option_map replies.Sub (admitted_of decls (words_of row))

-- a number, by what stands behind the sign
abbrev pub number_of : List ℕ → Option WorkReply
number_of row = option_map replies.Number (wide_of row)

-- the others, by what stands behind the sign
abbrev pub open_reply : List Decl → Verb → List ℕ → Option WorkReply
open_reply decls verbs.Submit row = sub_of decls row
open_reply decls verbs.Cancel row = option_map replies.Flags (flags_of row)
open_reply decls verbs.FlushStart row = said_behind (fixed_word Wait) (one replies.WaitFor admission_of) (words_of row)
open_reply decls verbs.Schedule row = sub_of decls row
open_reply decls verbs.Reschedule row = sub_of decls row
open_reply decls verbs.Remaining row = number_of row
open_reply decls verbs.DrainStart row = number_of row
open_reply decls verbs.DrainDone row = number_of row
open_reply decls verbs.Announce row = said_behind (fixed_word Now) (now_of decls) (words_of row)
open_reply decls verbs.Begin row = two replies.Run (item_of decls) admission_of (words_of row)
open_reply decls verb row = None

-- a submission that was admitted
abbrev pub FitsSub : List Decl → WorkReply → Type 0
FitsSub decls (replies.Sub submitted) = FitsAdmitted decls submitted
FitsSub decls reply = ⊥

-- a number of 64 bits
abbrev pub FitsNumber : WorkReply → Type 0
FitsNumber (replies.Number number) = number < 2 ^ 64
FitsNumber reply = ⊥

-- which the others are
abbrev pub FitsOpen : List Decl → Verb → WorkReply → Type 0
FitsOpen decls verbs.Submit reply = FitsSub decls reply
FitsOpen decls verbs.Cancel (replies.Flags flags) = flags < 32
FitsOpen decls verbs.FlushStart (replies.WaitFor admission) = admission < 2 ^ 64
FitsOpen decls verbs.Schedule reply = FitsSub decls reply
FitsOpen decls verbs.Reschedule reply = FitsSub decls reply
FitsOpen decls verbs.Remaining reply = FitsNumber reply
FitsOpen decls verbs.DrainStart reply = FitsNumber reply
FitsOpen decls verbs.DrainDone reply = FitsNumber reply
FitsOpen decls verbs.Announce (replies.Now time ended) = (time < 2 ^ 64) × AllByRecursion (IsExpiry decls) ended
FitsOpen decls verbs.Begin (replies.Run item admission) = IsItem decls item × (admission < 2 ^ 64)
FitsOpen decls verb reply = ⊥

-- what stands behind the sign
abbrev pub reply_row : List Decl → WorkReply → List ℕ
reply_row decls reply = line_text (reply_words decls reply)

-- the reply to an operation of a verb that stands behind the sign
abbrev pub reply_of : List Decl → Verb → List ℕ → Option WorkReply
reply_of decls verb row = one_of bytes_eq (reply_row decls) (open_reply decls verb) (fixed_replies verb) row

-- the machine can answer so to an operation of a verb
abbrev pub AnswersTo : List Decl → Verb → WorkReply → Type 0
AnswersTo decls verb reply = IsIn reply (fixed_replies verb) ⊎ FitsOpen decls verb reply
