-- Where an item is behind some entries of the work service, by the trace alone.
use Rattle.std.specs.Prelude.{ℕ, ◌==◌, Bool, false, ◌||◌, Option, Some, None, List, [], ◌∷◌, if◌then◌else◌}
use Rattle.std.specs.Option.{option_map_or}
use Rattle.zk_base.specs.declared.ids.Entry.{Entry}
use Rattle.zk_model_work.specs.declared.ops.Expiry.{Expiry}
use Rattle.zk_model_work.specs.declared.ops.Submitted.{Submitted}
use Rattle.zk_model_work.specs.declared.ops.Submitted.TheVariants.{Fresh, Rerun}
use Rattle.zk_model_work.specs.declared.ops.WorkOp.{WorkOp}
use Rattle.zk_model_work.specs.declared.ops.WorkOp.TheVariants as ops
use Rattle.zk_model_work.specs.declared.ops.WorkReply.{WorkReply}
use Rattle.zk_model_work.specs.declared.ops.WorkReply.TheVariants as replies
use Rattle.zk_show_why.specs.declared.whereabouts.Admitted.{Admitted}
use Rattle.zk_show_why.specs.declared.whereabouts.Armed.{Armed}
use Rattle.zk_show_why.specs.declared.whereabouts.Asked.{Asked}
use Rattle.zk_show_why.specs.declared.whereabouts.Asked.TheVariants as asks
use Rattle.zk_show_why.specs.declared.whereabouts.Made.{Made}
use Rattle.zk_show_why.specs.declared.whereabouts.Whereabouts.{Whereabouts}

-- an item that waits nowhere, and isn't delayed
abbrev pub nowhere : Whereabouts
nowhere = record { waiting = None; run = None; armed = None }

-- whoever made an entry
abbrev pub made_by : {O R : Type 0} → Entry O R → Made
made_by e = record { player = e.who.number; step = e.step }

-- whether it is the admission of a number
abbrev pub is_number : Option Admitted → ℕ → Bool
is_number admitted number = option_map_or (λ a. a.number == number) admitted false

-- its delay is over
abbrev pub disarmed : Whereabouts → Whereabouts
disarmed at = record at { armed = None }

-- it waits nowhere
abbrev pub dropped : Whereabouts → Whereabouts
dropped at = record at { waiting = None; armed = None }

-- it waits for its run by a queue
abbrev pub queued : Whereabouts → ℕ → ℕ → Whereabouts
queued at number queue = record at { waiting = Some (record { number = number; queue = queue }) }

-- behind a submission that is answered so
abbrev pub submitted : Whereabouts → Submitted → Whereabouts
submitted at (Fresh number queue) = queued at number queue
submitted at (Rerun number queue) = queued at number queue
submitted at answer = at

-- the queue that runs it, or else its delay's
abbrev pub hurried_to : Whereabouts → Armed → ℕ
hurried_to at armed = option_map_or (λ a. a.queue) at.run armed.queue

-- whether it waits as this admission, or runs as that
abbrev pub is_known : Whereabouts → ℕ → Bool
is_known at number = is_number at.waiting number || is_number at.run number

-- behind a flush that waits for this admission: where that is a new one, the flush has submitted the item, which was delayed
abbrev pub hurried : Whereabouts → ℕ → Armed → Whereabouts
hurried at number armed =
    if is_known at number then disarmed at else queued (disarmed at) number (hurried_to at armed)

abbrev pub flushed : Whereabouts → ℕ → Whereabouts
flushed at number = option_map_or (λ armed. hurried at number armed) at.armed at

-- what an operation asks for the item
abbrev pub asked_of : ℕ → WorkOp → Asked
asked_of item (ops.Submit other queue) = if other == item then asks.Submission else asks.Nothing
asked_of item (ops.Schedule other queue ticks) = if other == item then asks.Delay queue else asks.Nothing
asked_of item (ops.Reschedule other queue ticks) = if other == item then asks.OtherDelay queue else asks.Nothing
asked_of item (ops.Cancel other) = if other == item then asks.Cancelling else asks.Nothing
asked_of item (ops.CancelStart other) = if other == item then asks.Cancelling else asks.Nothing
asked_of item (ops.FlushStart other) = if other == item then asks.Flushing else asks.Nothing
asked_of item op = asks.Nothing

-- behind a submission, or a schedule that delays it or submits it at once
abbrev pub after_submission : Whereabouts → WorkReply → Whereabouts
after_submission at (replies.Sub answer) = submitted at answer
after_submission at reply = at

abbrev pub after_delay : Whereabouts → ℕ → Made → WorkReply → Whereabouts
after_delay at queue made replies.Armed = record at { armed = Some (record { made = made; queue = queue }) }
after_delay at queue made (replies.Sub answer) = submitted at answer
after_delay at queue made reply = at

-- behind a flush, which ends its delay
abbrev pub after_flush : Whereabouts → WorkReply → Whereabouts
after_flush at (replies.WaitFor number) = flushed at number
after_flush at reply = disarmed at

-- behind what was asked for it and answered so
abbrev pub after_asked : Whereabouts → Asked → Made → WorkReply → Whereabouts
after_asked at asks.Nothing made reply = at
after_asked at asks.Submission made reply = after_submission at reply
after_asked at (asks.Delay queue) made reply = after_delay at queue made reply
after_asked at (asks.OtherDelay queue) made reply = after_delay (disarmed at) queue made reply
after_asked at asks.Cancelling made reply = dropped at
after_asked at asks.Flushing made reply = after_flush at reply

-- the answer to the item's submission, if its delay is among those that are over
abbrev pub expiry_of : ℕ → List Expiry → Option Submitted
expiry_of item [] = None
expiry_of item (expiry ∷ expiries) = if expiry.item == item then Some expiry.submitted else expiry_of item expiries

-- behind an announce
abbrev pub after_announce : ℕ → Whereabouts → List Expiry → Whereabouts
after_announce item at expiries = option_map_or (λ answer. submitted (disarmed at) answer) (expiry_of item expiries) at

-- the queue whose worker begins or ends a run
abbrev pub queue_begun : WorkOp → Option ℕ
queue_begun (ops.Begin queue) = Some queue
queue_begun op = None

abbrev pub queue_ended : WorkOp → Option ℕ
queue_ended (ops.End queue) = Some queue
queue_ended op = None

-- a worker has taken it up
abbrev pub begun : Whereabouts → ℕ → ℕ → Whereabouts
begun at number queue = record at { waiting = None; run = Some (record { number = number; queue = queue }) }

abbrev pub after_begin : Whereabouts → ℕ → WorkOp → Whereabouts
after_begin at number op = option_map_or (λ queue. begun at number queue) (queue_begun op) at

-- whether this queue runs it
abbrev pub is_run_by : Whereabouts → ℕ → Bool
is_run_by at queue = option_map_or (λ a. a.queue == queue) at.run false

-- behind the end of the run of a queue
abbrev pub after_end : Whereabouts → ℕ → Whereabouts
after_end at queue = if is_run_by at queue then record at { run = None } else at

abbrev pub after_done : Whereabouts → WorkOp → Whereabouts
after_done at op = option_map_or (λ queue. after_end at queue) (queue_ended op) at

-- where the item is behind what was asked and answered so
abbrev pub after_reply : ℕ → Whereabouts → WorkOp → Made → WorkReply → Whereabouts
after_reply item at op made (replies.Run other number) = if other == item then after_begin at number op else at
after_reply item at op made (replies.Now time expiries) = after_announce item at expiries
after_reply item at op made replies.Done = after_done at op
after_reply item at op made reply = after_asked at (asked_of item op) made reply

-- where it is behind an entry
abbrev pub after : ℕ → Whereabouts → Entry WorkOp WorkReply → Whereabouts
after item at e = after_reply item at e.op (made_by e) e.reply

-- where it is behind these entries
abbrev pub after_all : ℕ → Whereabouts → List (Entry WorkOp WorkReply) → Whereabouts
after_all item at [] = at
after_all item at (e ∷ es) = after_all item (after item at e) es
