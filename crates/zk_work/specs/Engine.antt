-- Inner: no contract of a top call is made of this file.
use Rattle.std.specs.Prelude.{◌≡◌, ℕ, zero, suc, ◌+◌, ◌-◌, ◌^◌, ◌<◌, Bool, true, false, not, ◌==◌, ◌||◌, if◌then◌else◌, Option, Some, None, is_some, option_map, option_to_list, List, [], ◌++◌, filter, set}
use Rattle.std.specs.List.{list_any}
use Rattle.std.specs.Option.{option_map_or}
use Rattle.zk_base.specs.declared.ids.Who.{Who}
use Rattle.zk_model_work.specs.declared.ops.WorkOp.{WorkOp}
use Rattle.zk_model_work.specs.declared.ops.WorkOp.TheVariants as ops
use Rattle.zk_model_work.specs.declared.parts.Change.TheVariants as changes
use Rattle.zk_model_work.specs.declared.parts.Awaited.{Awaited}
use Rattle.zk_model_work.specs.declared.parts.Awaited.TheVariants.{Flush}
use Rattle.zk_model_work.specs.declared.parts.Closing.{Closing}
use Rattle.zk_model_work.specs.declared.parts.Closing.TheVariants as closings
use Rattle.zk_model_work.specs.declared.parts.Item.{Item}
use Rattle.zk_model_work.specs.declared.parts.Wait.{Wait}
use Rattle.zk_model_work.specs.declared.parts.Queue.{Queue}
use Rattle.zk_model_work.specs.declared.ops.Submitted.{Submitted}
use Rattle.zk_model_work.specs.declared.ops.Expiry.{Expiry}
use Rattle.zk_model_work.specs.declared.ops.WorkReply.{WorkReply}
use Rattle.zk_model_work.specs.declared.ops.WorkReply.TheVariants.{Sub, Flags, Truth, Number, Done, Now, Run}
use Rattle.zk_model_work.specs.Answers.{submission, admitted_to, flags, is_pending, cancel_start_reply, flush_start_reply, delay_reply, schedule_reply, remaining, drain_reply, start_reply, unplug_reply, stop_reply, cancel_wait, flushed, flush_wait, drain_wait, is_awaited_over, closes, is_worker}
use Rattle.zk_model_work.specs.Machine.{settle_from, change, drain, stop, awaiting}
use Rattle.zk_time.specs.declared.timeout.Timeout.{Timeout}
use Rattle.zk_time.specs.Timeouts.{is_armed, deadline_of, queue_of, count_due, arm, disarm, due_first, drop_due}
use Rattle.zk_queue.specs.Open.{Open, is_running, is_queued, is_idle, is_open, run, next, running, waiting, marks_of, mark, admit, drop_item, begin, end}
use Rattle.zk_work.specs.EngineState.{EngineState, last_of}

-- what the answers ask of an item: one that runs, runs where its last admission is
abbrev pub item_of : EngineState → ℕ → Item
item_of k item = record {
  cancelling = (marks_of k.active item).cancelling;
  queued = is_queued k.active item;
  running = is_running k.active item;
  home = if is_running k.active item then last_of k item else None;
  last = last_of k item;
  next = k.made;
}

-- the answer to a submission of the item
abbrev pub answer_of : EngineState → Option ℕ → ℕ → Option ℕ → Submitted
answer_of k caller item named = submission (item_of k item) k.queues caller named

-- what may be admitted: an item that doesn't wait, to a queue that there is
pub record MayAdmit (k : EngineState) (item queue : ℕ) : Type 0 where
  pub within : queue < k.active.queues
  pub free : is_queued k.active item ≡ false

-- after an admission of the item to this queue
abbrev pub admitted : EngineState → ℕ → ℕ → EngineState
admitted k item queue =
    record k { made = k.made + 1; last = set k.last item (Some queue); active = admit k.active item queue k.made }

-- after a submission with this answer
abbrev pub submitted : EngineState → ℕ → Submitted → EngineState
submitted k item answer = option_map_or (admitted k item) (admitted_to answer) k

-- the item waits no longer, and is marked where it runs
abbrev pub cancelled : Open → ℕ → Open
cancelled o item = if is_running o item then mark (drop_item o item) item 2 else drop_item o item

-- the open admissions are these, and what has drained is settled
abbrev pub settled : EngineState → Open → EngineState
settled k o = record k { active = o; queues = settle_from (is_idle o) 0 k.queues }

-- the queue's run is over, and its item has no marks
abbrev pub ended : EngineState → ℕ → EngineState
ended k queue =
    option_map_or (λ t. record (settled k (mark (end k.active queue) t.item 0)) { running = k.running - 1 })
    (run k.active queue) k

-- the item isn't armed
abbrev pub disarmed : EngineState → ℕ → EngineState
disarmed k item = record k { timeouts = disarm k.timeouts item }

-- the item is delayed, queued or being cancelled
abbrev pub is_pending_in : EngineState → ℕ → Bool
is_pending_in k item = is_pending (item_of k item) (is_armed k.timeouts item)

-- after an item was given this delay: with none it was submitted by the player, else it is armed
abbrev pub delayed : EngineState → Who → ℕ → ℕ → ℕ → EngineState
delayed k who item queue delay =
    if delay == 0 then submitted k item (answer_of k (Some who.number) item (Some queue))
    else record k { timeouts = arm k.timeouts item queue (k.time + delay) }

-- what an item with this delay is answered
abbrev pub delay_reply_in : EngineState → Who → ℕ → ℕ → ℕ → WorkReply
delay_reply_in k who item queue delay = delay_reply (answer_of k (Some who.number) item (Some queue)) delay

-- what a schedule is answered
abbrev pub schedule_reply_in : EngineState → Who → ℕ → ℕ → ℕ → WorkReply
schedule_reply_in k who item queue delay =
    schedule_reply (is_pending_in k item) (answer_of k (Some who.number) item (Some queue)) delay

-- after a flush has ended the item's delay, if it has one
abbrev pub hurried : EngineState → Who → ℕ → EngineState
hurried k who item =
    let d = disarmed k item in
    option_map_or (λ queue. submitted d item (answer_of d (Some who.number) item (Some queue)))
    (queue_of k.timeouts item) d

-- what becomes of the item of a timeout
abbrev pub expiry_of : EngineState → Timeout → Expiry
expiry_of k t = record { item = t.item; submitted = answer_of k None t.item (Some t.queue) }

-- after the first that is due, if there is one, was submitted by nobody
abbrev pub expired_next : ℕ → EngineState → EngineState
expired_next time k =
    let rest = record k { timeouts = drop_due k.timeouts time } in
    option_map_or (λ t. submitted rest t.item (answer_of k None t.item (Some t.queue)))
    (due_first time k.timeouts.live) k

-- after so many of them
abbrev pub expired : ℕ → ℕ → EngineState → EngineState
expired zero time k = k
expired (suc n) time k = expired_next time (expired n time k)

-- what has become of them
abbrev pub told : ℕ → ℕ → EngineState → List Expiry
told zero time k = []
told (suc n) time k =
    let so_far = expired n time k in
    told n time k ++ option_to_list (option_map (expiry_of so_far) (due_first time so_far.timeouts.live))

-- after so many ticks more, and all that is due by then
abbrev pub announced : EngineState → ℕ → EngineState
announced k ticks =
    let time = k.time + ticks in
    record (expired (count_due k.timeouts time) time k) { time = time }

-- what an announce is answered
abbrev pub announce_reply : EngineState → ℕ → WorkReply
announce_reply k ticks = let time = k.time + ticks in Now time (told (count_due k.timeouts time) time k)

-- it is this number
abbrev pub is_number : ℕ → Option ℕ → Bool
is_number number o = option_map_or (λ n. n == number) o false

-- the wait is a flush of one of these, the item's waiting and its running admission
abbrev pub flushes : Option ℕ → Option ℕ → Awaited → Bool
flushes waits runs (Flush number) = is_number number waits || is_number number runs
flushes waits runs _ = false

-- the item is being flushed
abbrev pub is_flushing : Open → List Wait → ℕ → Bool
is_flushing o waits item = list_any (λ w. flushes (waiting o item) (running o item) w.awaited) waits

-- the busy flags of the item
abbrev pub flags_of : EngineState → ℕ → ℕ
flags_of k item = flags (item_of k item) (is_armed k.timeouts item) (is_flushing k.active k.waits item)

-- the admission of this number neither waits nor runs
abbrev pub is_over : Open → ℕ → Bool
is_over o number = not (is_open o number)

-- what is awaited has come: what has begun and is open no longer has ended
abbrev pub has_come : Open → List Queue → Closing → Awaited → Bool
has_come o queues closing awaited = is_awaited_over (is_over o) (is_over o) queues closing awaited

-- there is an unanswered wait of the player of this place, and what it awaits has come
abbrev pub may_close : EngineState → Closing → Who → ℕ → Bool
may_close k closing who place = list_any (closes (has_come k.active k.queues closing) who place) k.waits

-- the waits without those that this ends
abbrev pub left_waits : Open → List Queue → List Wait → Closing → Who → ℕ → List Wait
left_waits o queues waits closing who place =
    filter (λ w. not (closes (has_come o queues closing) who place w)) waits

-- the engine after the end of a wait
abbrev pub closed : EngineState → Closing → Who → ℕ → EngineState
closed k closing who place = record k { waits = left_waits k.active k.queues k.waits closing who place }

-- the admission that a flush of the item waits for
abbrev pub flushed_of : Open → ℕ → Option ℕ
flushed_of o item = flushed (waiting o item) (running o item)

-- after the start of a sync cancel: a cancel, in which the player waits where the item runs
abbrev pub cancel_started : EngineState → Who → ℕ → EngineState
cancel_started k who item =
    let waits = awaiting k.waits (cancel_wait k.entries who (running k.active item)) in
    record (settled (disarmed k item) (cancelled k.active item)) { waits = waits }

-- after the start of a flush, which ends the item's delay,
-- and in which the player waits where an admission of the item then waits or runs
abbrev pub flush_started : EngineState → Who → ℕ → EngineState
flush_started k who item =
    let h = hurried k who item in
    record h { waits = awaiting h.waits (flush_wait h.entries who (flushed_of h.active item)) }

-- after the start of a drain, for which the player waits unless the queue is idle
abbrev pub drained : EngineState → Who → ℕ → Bool → EngineState
drained k who queue plug =
    let idle = is_idle k.active queue in
    let waits = awaiting k.waits (drain_wait idle k.entries k.queues who queue) in
    record k { queues = drain idle plug k.queues queue; waits = waits }

-- the reply to each operation, where it is possible
abbrev pub reply_of : EngineState → Who → WorkOp → Option WorkReply
reply_of k who (ops.Submit item named) = Some (Sub (answer_of k (Some who.number) item named))
reply_of k who (ops.Cancel item) = Some (Flags (flags_of (settled (disarmed k item) (cancelled k.active item)) item))
reply_of k who (ops.CancelStart item) = Some (cancel_start_reply (flags_of k item) (is_some (running k.active item)))
reply_of k who (ops.CancelDone place) = if may_close k closings.Cancel who place then Some (Truth true) else None
reply_of k who (ops.FlushStart item) = Some (flush_start_reply (flushed_of (hurried k who item).active item))
reply_of k who (ops.FlushDone place) = if may_close k closings.Flush who place then Some (Truth true) else None
reply_of k who (ops.Schedule item queue delay) = Some (schedule_reply_in k who item queue delay)
reply_of k who (ops.Reschedule item queue delay) = Some (delay_reply_in k who item queue delay)
reply_of k who (ops.Remaining item) = Some (Number (remaining (deadline_of k.timeouts item) k.time))
reply_of k who (ops.Start queue) = Some (start_reply k.queues queue)
reply_of k who (ops.DrainStart queue plug) = Some (drain_reply (is_idle k.active queue))
reply_of k who (ops.DrainDone place) = if may_close k closings.Drain who place then Some (Number 1) else None
reply_of k who (ops.Unplug queue) = Some (unplug_reply k.queues queue)
reply_of k who (ops.Stop queue) = Some (stop_reply (is_idle k.active queue) k.queues queue)
reply_of k who (ops.Announce ticks) = Some (announce_reply k ticks)
reply_of k who (ops.Begin queue) =
    if is_worker k.queues queue who.number then option_map (λ t. Run t.item t.number) (next k.active queue) else None
reply_of k who (ops.End queue) =
    if is_worker k.queues queue who.number then option_map (λ t. Done) (run k.active queue) else None

-- what each operation changes, where it is possible
abbrev pub change_of : EngineState → Who → WorkOp → EngineState
change_of k who (ops.Submit item named) = submitted k item (answer_of k (Some who.number) item named)
change_of k who (ops.Cancel item) = settled (disarmed k item) (cancelled k.active item)
change_of k who (ops.CancelStart item) = cancel_started k who item
change_of k who (ops.CancelDone place) = closed k closings.Cancel who place
change_of k who (ops.FlushStart item) = flush_started k who item
change_of k who (ops.FlushDone place) = closed k closings.Flush who place
change_of k who (ops.Schedule item queue delay) = if is_pending_in k item then k else delayed k who item queue delay
change_of k who (ops.Reschedule item queue delay) = delayed (disarmed k item) who item queue delay
change_of k who (ops.Remaining item) = k
change_of k who (ops.Start queue) = record k { queues = change changes.Start k.queues queue }
change_of k who (ops.DrainStart queue plug) = drained k who queue plug
change_of k who (ops.DrainDone place) = closed k closings.Drain who place
change_of k who (ops.Unplug queue) = record k { queues = change changes.Unplug k.queues queue }
change_of k who (ops.Stop queue) = record k { queues = stop (is_idle k.active queue) k.queues queue }
change_of k who (ops.Announce ticks) = announced k ticks
change_of k who (ops.Begin queue) = record k { active = begin k.active queue; running = k.running + 1 }
change_of k who (ops.End queue) = ended k queue

-- the engine after an entry, which is counted
abbrev pub entered : EngineState → Who → WorkOp → EngineState
entered k who op = let after = change_of k who op in record after { entries = k.entries + 1 }

-- the engine after an operation with this reply: nothing changes where there is none
abbrev pub after_reply : EngineState → Who → WorkOp → Option WorkReply → EngineState
after_reply k who op reply = if is_some reply then entered k who op else k

-- the reply is that of an announce
abbrev pub is_now : WorkReply → Bool
is_now (Now time told) = true
is_now _ = false

-- the ticks in an operation are of 32 bits
abbrev pub IsTimely : WorkOp → Type 0
IsTimely (ops.Schedule item queue delay) = delay < 2 ^ 32
IsTimely (ops.Reschedule item queue delay) = delay < 2 ^ 32
IsTimely (ops.Announce ticks) = ticks < 2 ^ 32
IsTimely op = Unit {0}
