use Rattle.std.specs.Prelude.{ℕ, ◌-◌, Bool, true, false, not, nat_lt, ◌==◌, ◌&&◌, ◌||◌, if◌then◌else◌, Option, Some, None, option_map, List, slice_get}
use Rattle.std.specs.Option.{option_map_or, option_or}
use Rattle.zk_base.specs.declared.ids.Who.{Who}
use Rattle.zk_base.specs.declared.errors.Errno.{Errno}
use Rattle.zk_base.specs.declared.errors.Errno.TheVariants.{Busy, Inval, NoDev}
use Rattle.zk_model_work.specs.declared.ops.Submitted.{Submitted}
use Rattle.zk_model_work.specs.declared.ops.Submitted.TheVariants.{Already, Fresh, Rerun, Refused}
use Rattle.zk_model_work.specs.declared.ops.WorkReply.{WorkReply}
use Rattle.zk_model_work.specs.declared.ops.WorkReply.TheVariants.{Sub, Armed, Truth, WaitFor, Number, Done}
use Rattle.zk_model_work.specs.declared.ops.WorkReply.TheVariants as replies
use Rattle.zk_model_work.specs.declared.parts.Awaited.{Awaited}
use Rattle.zk_model_work.specs.declared.parts.Awaited.TheVariants as awaiteds
use Rattle.zk_model_work.specs.declared.parts.Wait.{Wait}
use Rattle.zk_model_work.specs.declared.parts.Queue.{Queue}
use Rattle.zk_model_work.specs.declared.parts.Closing.{Closing}
use Rattle.zk_model_work.specs.declared.parts.Closing.TheVariants as closings
use Rattle.zk_model_work.specs.declared.parts.Item.{Item}
use Rattle.zk_model_work.specs.Questions.{busy_flags}

-- the caller, where there is one, is the queue's worker
abbrev pub is_chained : Queue → Option ℕ → Bool
is_chained queue caller = option_map_or (λ player. player == queue.worker) caller false

-- the queue that a submission goes to:
-- the one that runs the item, else the named one, else that of the item's last admission
abbrev pub target : Item → Option ℕ → Option ℕ
target i named = option_or i.home (option_or named i.last)

-- an admission to this queue, with the number that it gets: again, where the item runs
abbrev pub admission : Item → ℕ → Submitted
admission i number = if i.running then Rerun i.next number else Fresh i.next number

-- why a queue takes no submission of this caller, if it takes none:
-- not before it is started, while it drains from its own worker alone, and not while it is plugged and doesn't drain
abbrev pub refusal : Option ℕ → Queue → Option Errno
refusal caller queue =
    if not queue.started then Some NoDev else
    if queue.draining && not (is_chained queue caller) then Some Busy else
    if queue.plugged && not queue.draining then Some Busy else None

-- whether this queue takes the item
abbrev pub submission_to : Item → Option ℕ → ℕ → Queue → Submitted
submission_to i caller number queue = option_map_or Refused (refusal caller queue) (admission i number)

-- whether there is a queue to go to, and it takes the item
abbrev pub submission_at : Item → List Queue → Option ℕ → Option ℕ → Submitted
submission_at i queues caller None = Refused Inval
submission_at i queues caller (Some number) =
    option_map_or (submission_to i caller number) (slice_get queues number) (Refused Inval)

-- the answer to a submission, by a player or by nobody:
-- refused while the item is being cancelled, and without effect where it waits already
abbrev pub submission : Item → List Queue → Option ℕ → Option ℕ → Submitted
submission i queues caller named =
    if i.cancelling then Refused Busy else
    if i.queued then Already else
    submission_at i queues caller (target i named)

-- the queue that an answer admits to, if it admits
abbrev pub admitted_to : Submitted → Option ℕ
admitted_to (Fresh number queue) = Some queue
admitted_to (Rerun number queue) = Some queue
admitted_to answer = None

-- the busy flags of an item, by whether it is armed, and whether it is being flushed
abbrev pub flags : Item → Bool → Bool → ℕ
flags i armed flushing = busy_flags i.running i.cancelling i.queued armed flushing

-- the item, which is armed or isn't, is delayed, queued or being cancelled
abbrev pub is_pending : Item → Bool → Bool
is_pending i armed = armed || i.queued || i.cancelling

-- what a sync cancel is answered, by the flags before it:
-- false where there were none, else whether a run has to be awaited
abbrev pub cancel_start_reply : ℕ → Bool → WorkReply
cancel_start_reply flags runs =
    if flags == 0 then Truth false else
    if runs then replies.Wait else Truth true

-- what a flush is answered: the admission that it waits for, if there is one
abbrev pub flush_start_reply : Option ℕ → WorkReply
flush_start_reply number = option_map_or WaitFor number (Truth false)

-- what an item with this delay is answered: of its submission, or that it is armed
abbrev pub delay_reply : Submitted → ℕ → WorkReply
delay_reply answer delay = if delay == 0 then Sub answer else Armed

-- what a schedule is answered: that the item is pending, or as its delay is
abbrev pub schedule_reply : Bool → Submitted → ℕ → WorkReply
schedule_reply pending answer delay = if pending then Sub Already else delay_reply answer delay

-- the ticks until this deadline, none where there is none
abbrev pub remaining : Option ℕ → ℕ → ℕ
remaining deadline time = option_map_or (λ moment. moment - time) deadline 0

-- whether a drain has to wait: it hasn't where the queue is idle
abbrev pub drain_reply : Bool → WorkReply
drain_reply idle = if idle then Number 0 else replies.Wait

-- the queue of this number is started
abbrev pub is_started : List Queue → ℕ → Bool
is_started queues number = option_map_or (λ queue. queue.started) (slice_get queues number) false

-- the queue of this number is plugged
abbrev pub is_plugged : List Queue → ℕ → Bool
is_plugged queues number = option_map_or (λ queue. queue.plugged) (slice_get queues number) false

-- whether a start finds the queue started
abbrev pub start_reply : List Queue → ℕ → WorkReply
start_reply queues number = if is_started queues number then replies.Already else Done

-- whether an unplug finds the queue plugged
abbrev pub unplug_reply : List Queue → ℕ → WorkReply
unplug_reply queues number = if is_plugged queues number then Done else replies.Already

-- whether a stop finds the queue started, and may be done there: it may where the queue is plugged, and idle
abbrev pub stop_reply : Bool → List Queue → ℕ → WorkReply
stop_reply idle queues number =
    if not (is_started queues number) then replies.Already else
    if is_plugged queues number && idle then Done else replies.Busy

-- how many drainings of the queue have ended
abbrev pub drained_of : List Queue → ℕ → ℕ
drained_of queues number = option_map_or (λ queue. queue.drained) (slice_get queues number) 0

-- the wait of a player that begins with the entry of this place
abbrev pub wait_for : ℕ → Who → Awaited → Wait
wait_for place who awaited = record { place = place; player = who.number; awaited = awaited; answered = false }

-- the wait for the end of the run that a cancel finds
abbrev pub cancel_wait : ℕ → Who → Option ℕ → Option Wait
cancel_wait place who number = option_map (λ n. wait_for place who (awaiteds.Cancel n)) number

-- the admission that a flush waits for: the item's waiting one, else its running one
abbrev pub flushed : Option ℕ → Option ℕ → Option ℕ
flushed waiting running = option_or waiting running

-- the wait for the end of that admission
abbrev pub flush_wait : ℕ → Who → Option ℕ → Option Wait
flush_wait place who number = option_map (λ n. wait_for place who (awaiteds.Flush n)) number

-- the wait for one more draining of the queue to end, unless it is idle
abbrev pub drain_wait : Bool → ℕ → List Queue → Who → ℕ → Option Wait
drain_wait idle place queues who queue =
    if idle then None else Some (wait_for place who (awaiteds.Drain queue (drained_of queues queue)))

-- what is awaited has come, by which admissions have ended, and which neither wait nor run:
-- the run that a sync cancel found; the admission of a flush; more drainings of the queue than a drain names
abbrev pub is_awaited_over : (ℕ → Bool) → (ℕ → Bool) → List Queue → Closing → Awaited → Bool
is_awaited_over ended over queues closings.Cancel (awaiteds.Cancel number) = ended number
is_awaited_over ended over queues closings.Flush (awaiteds.Flush number) = over number
is_awaited_over ended over queues closings.Drain (awaiteds.Drain queue count) = nat_lt count (drained_of queues queue)
is_awaited_over ended over queues closing awaited = false

-- it is the player's wait of this place, and isn't answered yet
abbrev pub is_unanswered : ℕ → ℕ → Wait → Bool
is_unanswered place player w = (w.place == place) && (w.player == player) && not w.answered

-- it is the player's unanswered wait of this place, and what it awaits has come
abbrev pub closes : (Awaited → Bool) → Who → ℕ → Wait → Bool
closes has_come who place w = is_unanswered place who.number w && has_come w.awaited

-- the player is the worker of the queue
abbrev pub is_worker : List Queue → ℕ → ℕ → Bool
is_worker queues number player = option_map_or (λ queue. player == queue.worker) (slice_get queues number) false
