use Rattle.std.specs.Prelude.{ℕ, List, [], ◌∷◌, ◌++◌, map, codes}
use Rattle.std.specs.List.{join_with_byte}
use Rattle.zk_base.specs.declared.errors.Errno.TheVariants.{Busy}
use Rattle.zk_words.specs.Bytes.{colon}
use Rattle.zk_line.specs.declared.types.Decl.{Decl}
use Rattle.zk_model_work.specs.declared.ops.WorkOp.{WorkOp}
use Rattle.zk_model_work.specs.declared.ops.WorkOp.TheVariants as ops
use Rattle.zk_model_work.specs.declared.ops.WorkReply.{WorkReply}
use Rattle.zk_model_work.specs.declared.ops.WorkReply.TheVariants as replies
use Rattle.zk_model_work.specs.declared.ops.Submitted.{Submitted}
use Rattle.zk_model_work.specs.declared.ops.Submitted.TheVariants as submissions
use Rattle.zk_model_work.specs.declared.ops.Expiry.{Expiry}
use Rattle.zk_trace.specs.declared.work.Verb.{Verb}
use Rattle.zk_trace.specs.declared.work.Verb.TheVariants as verbs
use Rattle.zk_trace.specs.declared.parts.FixedWord.{FixedWord}
use Rattle.zk_trace.specs.declared.parts.FixedWord.TheVariants.{Zero, One, Two, Wait, Done, Already, Now}
use Rattle.zk_trace.specs.declared.parts.Part.{Part}
use Rattle.zk_trace.specs.declared.parts.Part.TheVariants.{Item, Queue, Target, Narrow, Wide, Place, Admission, Plug, Flags, Truth, Refusal, Fixed}
use Rattle.zk_trace.specs.Parts.{part_word}

-- the word of a verb
abbrev pub verb_word : Verb → List ℕ
verb_word verbs.Submit = codes "submit"
verb_word verbs.Cancel = codes "cancel"
verb_word verbs.CancelStart = codes "cancelstart"
verb_word verbs.CancelDone = codes "canceldone"
verb_word verbs.FlushStart = codes "flushstart"
verb_word verbs.FlushDone = codes "flushdone"
verb_word verbs.Schedule = codes "schedule"
verb_word verbs.Reschedule = codes "reschedule"
verb_word verbs.Remaining = codes "remaining"
verb_word verbs.Start = codes "start"
verb_word verbs.DrainStart = codes "drainstart"
verb_word verbs.DrainDone = codes "draindone"
verb_word verbs.Unplug = codes "unplug"
verb_word verbs.Stop = codes "stop"
verb_word verbs.Announce = codes "announce"
verb_word verbs.Begin = codes "begin"
verb_word verbs.End = codes "end"

-- an operation as it is written: its verb, and what stands behind that
abbrev pub said_of : WorkOp → Verb × List Part
said_of (ops.Submit item queue) = (verbs.Submit, Item item ∷ Target queue ∷ [])
said_of (ops.Cancel item) = (verbs.Cancel, Item item ∷ [])
said_of (ops.CancelStart item) = (verbs.CancelStart, Item item ∷ [])
said_of (ops.CancelDone place) = (verbs.CancelDone, Place place ∷ [])
said_of (ops.FlushStart item) = (verbs.FlushStart, Item item ∷ [])
said_of (ops.FlushDone place) = (verbs.FlushDone, Place place ∷ [])
said_of (ops.Schedule item queue delay) =
    (verbs.Schedule, Item item ∷ Queue queue ∷ Narrow delay ∷ [])
said_of (ops.Reschedule item queue delay) =
    (verbs.Reschedule, Item item ∷ Queue queue ∷ Narrow delay ∷ [])
said_of (ops.Remaining item) = (verbs.Remaining, Item item ∷ [])
said_of (ops.Start queue) = (verbs.Start, Queue queue ∷ [])
said_of (ops.DrainStart queue plug) = (verbs.DrainStart, Queue queue ∷ Plug plug ∷ [])
said_of (ops.DrainDone place) = (verbs.DrainDone, Place place ∷ [])
said_of (ops.Unplug queue) = (verbs.Unplug, Queue queue ∷ [])
said_of (ops.Stop queue) = (verbs.Stop, Queue queue ∷ [])
said_of (ops.Announce ticks) = (verbs.Announce, Narrow ticks ∷ [])
said_of (ops.Begin queue) = (verbs.Begin, Queue queue ∷ [])
said_of (ops.End queue) = (verbs.End, Queue queue ∷ [])

-- the words of an operation
abbrev pub op_words : List Decl → WorkOp → List (List ℕ)
op_words decls op = let said = said_of op in verb_word said.0 ∷ map (part_word decls) said.1

-- an admission: its number and its queue, behind the answer
abbrev pub admitted : FixedWord → ℕ → ℕ → List Part
admitted answer admission queue = Fixed answer ∷ Admission admission ∷ Queue queue ∷ []

-- what became of a submission
abbrev pub submitted_parts : Submitted → List Part
submitted_parts submissions.Already = Fixed Zero ∷ []
submitted_parts (submissions.Fresh admission queue) = admitted One admission queue
submitted_parts (submissions.Rerun admission queue) = admitted Two admission queue
submitted_parts (submissions.Refused errno) = Refusal errno ∷ []

-- a delay that ended: its item, and what became of the submission, with colons between
abbrev pub expiry_word : List Decl → Expiry → List ℕ
expiry_word decls e =
    join_with_byte colon (map (part_word decls) (Item e.item ∷ submitted_parts e.submitted))

-- the parts of a reply
abbrev pub reply_parts : WorkReply → List Part
reply_parts (replies.Sub submitted) = submitted_parts submitted
reply_parts replies.Armed = Fixed One ∷ []
reply_parts (replies.Flags flags) = Flags flags ∷ []
reply_parts (replies.Truth truth) = Truth truth ∷ []
reply_parts replies.Wait = Fixed Wait ∷ []
reply_parts (replies.WaitFor admission) = Fixed Wait ∷ Admission admission ∷ []
reply_parts (replies.Number number) = Wide number ∷ []
reply_parts replies.Done = Fixed Done ∷ []
reply_parts replies.Already = Fixed Already ∷ []
reply_parts replies.Busy = Refusal Busy ∷ []
reply_parts (replies.Now time expiries) = Fixed Now ∷ Wide time ∷ []
reply_parts (replies.Run item admission) = Item item ∷ Admission admission ∷ []

-- the delays that a reply says to have ended
abbrev pub expiries_of : WorkReply → List Expiry
expiries_of (replies.Now time expiries) = expiries
expiries_of reply = []

-- the words of a reply
abbrev pub reply_words : List Decl → WorkReply → List (List ℕ)
reply_words decls reply =
    map (part_word decls) (reply_parts reply) ++ map (expiry_word decls) (expiries_of reply)
