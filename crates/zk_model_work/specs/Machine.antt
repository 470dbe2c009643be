use Rattle.std.specs.Prelude.{ℕ, zero, suc, ◌+◌, Bool, true, false, not, nat_lt, ◌==◌, ◌&&◌, if◌then◌else◌, Option, Some, None, is_some, is_none, option_map, option_and_then, option_to_list, List, [], ◌∷◌, ◌++◌, length, map, slice_get}
use Rattle.std.specs.List.{list_any}
use Rattle.std.specs.Option.{option_map_or}
use Rattle.zk_base.specs.declared.ids.Who.{Who}
use Rattle.zk_base.specs.Legal.{Machine}
use Rattle.zk_model_work.specs.declared.ops.WorkOp.{WorkOp}
use Rattle.zk_model_work.specs.declared.ops.WorkOp.TheVariants.{Submit, Cancel, CancelStart, CancelDone, FlushStart, FlushDone, Schedule, Reschedule, Remaining, Start, DrainStart, DrainDone, Unplug, Stop, Announce, Begin, End}
use Rattle.zk_model_work.specs.declared.ops.Submitted.{Submitted}
use Rattle.zk_model_work.specs.declared.ops.Expiry.{Expiry}
use Rattle.zk_model_work.specs.declared.ops.WorkReply.{WorkReply}
use Rattle.zk_model_work.specs.declared.ops.WorkReply.TheVariants.{Sub, Flags, Truth, Number, Done, Now, Run}
use Rattle.zk_model_work.specs.declared.parts.Life.{Life}
use Rattle.zk_model_work.specs.declared.parts.Life.TheVariants.{Waiting, Running, Ended, Dropped}
use Rattle.zk_model_work.specs.declared.parts.Admission.{Admission}
use Rattle.zk_model_work.specs.declared.parts.Fate.TheVariants.{Live, Expired, Disarmed}
use Rattle.zk_model_work.specs.declared.parts.Arm.{Arm}
use Rattle.zk_model_work.specs.declared.parts.Awaited.{Awaited}
use Rattle.zk_model_work.specs.declared.parts.Wait.{Wait}
use Rattle.zk_model_work.specs.declared.parts.Queue.{Queue}
use Rattle.zk_model_work.specs.declared.parts.Closing.{Closing}
use Rattle.zk_model_work.specs.declared.parts.Closing.TheVariants as closings
use Rattle.zk_model_work.specs.declared.parts.Change.{Change}
use Rattle.zk_model_work.specs.declared.parts.Change.TheVariants as changes
use Rattle.zk_model_work.specs.Answers.{submission, admitted_to, flags, is_pending, cancel_start_reply, flush_start_reply, delay_reply, schedule_reply, remaining, drain_reply, start_reply, is_plugged, unplug_reply, stop_reply, cancel_wait, flushed, flush_wait, drain_wait, is_awaited_over, closes, is_worker}
use Rattle.zk_model_work.specs.Lists.{first}
use Rattle.zk_model_work.specs.State.{State}
use Rattle.zk_model_work.specs.Questions.{is_open, is_ended, passes_at, waits_as, runs_on, arms_item, waiting, running, line, run, is_empty_and_idle, armed, live_arm, deadline_of, is_due, due, is_flushing, item_of}

-- the admissions after a submission with this answer: one more where it was admitted
abbrev pub submit : List Admission → ℕ → Submitted → List Admission
submit admissions item answer =
    option_map_or (λ queue. admissions ++ record { item = item; queue = queue; life = Waiting } ∷ [])
    (admitted_to answer) admissions

-- the answer to a submission in a state
abbrev pub submission_in : State → Option ℕ → ℕ → Option ℕ → Submitted
submission_in s caller item named = submission (item_of s.admissions s.marks item) s.queues caller named

-- the admissions after these arms' items were submitted in turn, each to its arm's queue, by a player or by nobody
abbrev pub submit_arms : List ℕ → List Queue → Option ℕ → List Arm → List Admission → List Admission
submit_arms marks queues caller [] admissions = admissions
submit_arms marks queues caller (a ∷ arms) admissions =
    let answer = submission (item_of admissions marks a.item) queues caller (Some a.queue) in
    submit_arms marks queues caller arms (submit admissions a.item answer)

-- what each of them is answered, where nobody submits it
abbrev pub expiries : List ℕ → List Queue → List Arm → List Admission → List Expiry
expiries marks queues [] admissions = []
expiries marks queues (a ∷ arms) admissions =
    let answer = submission (item_of admissions marks a.item) queues None (Some a.queue) in
    record { item = a.item; submitted = answer } ∷ expiries marks queues arms (submit admissions a.item answer)

-- the admission with another life
abbrev pub with_life : Life → Admission → Admission
with_life life a = record a { life = life }

-- the admission of this number has another life
abbrev pub set_life : List Admission → ℕ → Life → List Admission
set_life [] number life = []
set_life (a ∷ rest) zero life = with_life life a ∷ rest
set_life (a ∷ rest) (suc number) life = a ∷ set_life rest number life

-- the first in the queue's line runs
abbrev pub begin : List Admission → ℕ → List Admission
begin admissions queue =
    option_map_or (λ number. set_life admissions number Running) (first (line admissions queue)) admissions

-- an admission, ended where the queue ran it
abbrev pub end_one : ℕ → Admission → Admission
end_one queue a = if runs_on queue a then with_life Ended a else a

-- what the queue ran has ended
abbrev pub end_run : List Admission → ℕ → List Admission
end_run admissions queue = map (end_one queue) admissions

-- an admission, dropped where it is a waiting one of the item
abbrev pub drop_one : ℕ → Admission → Admission
drop_one item a = if waits_as item a then with_life Dropped a else a

-- the item's waiting admission is dropped
abbrev pub drop_waiting : List Admission → ℕ → List Admission
drop_waiting admissions item = map (drop_one item) admissions

-- an arm, disarmed where it is a live one of the item
abbrev pub disarm_one : ℕ → Arm → Arm
disarm_one item a = if arms_item item a then record a { fate = Disarmed } else a

-- the item's live arm is disarmed
abbrev pub disarm : List Arm → ℕ → List Arm
disarm arms item = map (disarm_one item) arms

-- the arms with one more, which is live
abbrev pub arm : List Arm → ℕ → ℕ → ℕ → List Arm
arm arms item queue deadline = arms ++ record { item = item; queue = queue; deadline = deadline; fate = Live } ∷ []

-- an arm, expired where it is due
abbrev pub expire_one : ℕ → Arm → Arm
expire_one time a = if is_due time a then record a { fate = Expired } else a

-- the arms that are due have expired
abbrev pub expire : List Arm → ℕ → List Arm
expire arms time = map (expire_one time) arms

-- the item's run is marked as found by a cancel
abbrev pub mark : List Admission → List ℕ → ℕ → List ℕ
mark admissions marks item = marks ++ option_to_list (running admissions item)

-- a queue of this number that drains, where it is idle, has drained once more
abbrev pub settle_one : (ℕ → Bool) → ℕ → Queue → Queue
settle_one is_idle number queue =
    if queue.draining && is_idle number then record queue { draining = false; drained = queue.drained + 1 } else queue

-- the draining of each queue from this number on ends, where it is idle
abbrev pub settle_from : (ℕ → Bool) → ℕ → List Queue → List Queue
settle_from is_idle number [] = []
settle_from is_idle number (queue ∷ queues) = settle_one is_idle number queue ∷ settle_from is_idle (number + 1) queues

-- the draining of each queue ends, where it is empty and idle
abbrev pub settle : List Admission → List Queue → List Queue
settle admissions queues = settle_from (is_empty_and_idle admissions) 0 queues

-- the state after a cancel of the item:
-- its waiting admission dropped, its arm disarmed, its run marked, and what has drained settled
abbrev pub cancel : State → ℕ → State
cancel s item =
    let admissions = drop_waiting s.admissions item in
    let marks = mark s.admissions s.marks item in
    record s { admissions = admissions; arms = disarm s.arms item; marks = marks; queues = settle admissions s.queues }

-- the state after the end of what the queue ran
abbrev pub end : State → ℕ → State
end s queue =
    let admissions = end_run s.admissions queue in
    record s { admissions = admissions; queues = settle admissions s.queues }

-- a queue after a change of it
abbrev pub changed_queue : Change → Queue → Queue
changed_queue changes.Start queue = record queue { started = true }
changed_queue changes.Plug queue = record queue { plugged = true }
changed_queue changes.Unplug queue = record queue { plugged = false }
changed_queue changes.Stop queue = record queue { started = false }
changed_queue changes.Drain queue = record queue { draining = true }

-- the queue of this number, if there is one, is changed so
abbrev pub change : Change → List Queue → ℕ → List Queue
change c [] number = []
change c (queue ∷ queues) zero = changed_queue c queue ∷ queues
change c (queue ∷ queues) (suc number) = queue ∷ change c queues number

-- the queue of this number is changed so, where this is so
abbrev pub change_where : Bool → Change → List Queue → ℕ → List Queue
change_where asked c queues number = if asked then change c queues number else queues

-- the waits with one more, where there is something to wait for
abbrev pub awaiting : List Wait → Option Wait → List Wait
awaiting waits w = waits ++ option_to_list w

-- the state after the start of a sync cancel: that of a cancel, in which the player waits where the item runs
abbrev pub cancel_start : State → Who → ℕ → State
cancel_start s who item =
    record (cancel s item) { waits = awaiting s.waits (cancel_wait s.entries who (running s.admissions item)) }

-- the admissions after a flush has ended the item's delay, if it has one:
-- the item is submitted by the player to the arm's queue
abbrev pub hurried : State → Who → ℕ → List Admission
hurried s who item =
    submit_arms s.marks s.queues (Some who.number) (option_to_list (live_arm s.arms item)) s.admissions

-- the admission that a flush of the item waits for, once it has ended the item's delay
abbrev pub flushed_of : State → Who → ℕ → Option ℕ
flushed_of s who item =
    let admissions = hurried s who item in
    flushed (waiting admissions item) (running admissions item)

-- the state after the start of a flush, which ends the item's delay,
-- and in which the player waits where an admission of the item then waits or runs
abbrev pub flush_start : State → Who → ℕ → State
flush_start s who item =
    let waits = awaiting s.waits (flush_wait s.entries who (flushed_of s who item)) in
    record s { admissions = hurried s who item; arms = disarm s.arms item; waits = waits }

-- the item is delayed, queued or being cancelled in a state
abbrev pub is_pending_in : State → ℕ → Bool
is_pending_in s item = is_pending (item_of s.admissions s.marks item) (is_some (armed s.arms item))

-- the state in which an item has this delay: with none it was submitted by the player, else it is armed
abbrev pub delayed : State → Who → ℕ → ℕ → ℕ → State
delayed s who item queue delay =
    let answer = submission_in s (Some who.number) item (Some queue) in
    if delay == 0 then record s { admissions = submit s.admissions item answer }
    else record s { arms = arm s.arms item queue (s.time + delay) }

-- the state after a schedule, which leaves a pending item alone
abbrev pub schedule : State → Who → ℕ → ℕ → ℕ → State
schedule s who item queue delay = if is_pending_in s item then s else delayed s who item queue delay

-- the state after a reschedule, which gives up the delay that the item had
abbrev pub reschedule : State → Who → ℕ → ℕ → ℕ → State
reschedule s who item queue delay = delayed (record s { arms = disarm s.arms item }) who item queue delay

-- the state after so many ticks more: the arms that are due by then have expired, and nobody has submitted their items
abbrev pub announce : State → ℕ → State
announce s ticks =
    let time = s.time + ticks in
    let admissions = submit_arms s.marks s.queues None (due time s.arms) s.admissions in
    record s { time = time; arms = expire s.arms time; admissions = admissions }

-- the queue after the start of a drain: plugged where that was asked, and draining unless it is idle
abbrev pub drain : Bool → Bool → List Queue → ℕ → List Queue
drain idle plug queues number =
    change_where (not idle) changes.Drain (change_where plug changes.Plug queues number) number

-- the queue after a stop: not started any more, where it is plugged, and idle
abbrev pub stop : Bool → List Queue → ℕ → List Queue
stop idle queues number = change_where (is_plugged queues number && idle) changes.Stop queues number

-- the state after the start of a drain, in which the player waits unless the queue is empty and idle
abbrev pub drain_start : State → Who → ℕ → Bool → State
drain_start s who queue plug =
    let idle = is_empty_and_idle s.admissions queue in
    let waits = awaiting s.waits (drain_wait idle s.entries s.queues who queue) in
    record s { queues = drain idle plug s.queues queue; waits = waits }

-- the run that a sync cancel found has ended
abbrev pub has_ended : List Admission → ℕ → Bool
has_ended admissions number = passes_at (λ a. is_ended a.life) admissions number

-- the admission of this number neither waits nor runs
abbrev pub is_over : List Admission → ℕ → Bool
is_over admissions number = passes_at (λ a. not (is_open a.life)) admissions number

-- what is awaited has come
abbrev pub has_come : List Admission → List Queue → Closing → Awaited → Bool
has_come admissions queues closing awaited =
    is_awaited_over (has_ended admissions) (is_over admissions) queues closing awaited

-- there is an unanswered wait of the player of this place, and what it awaits has come
abbrev pub may_close : State → Closing → Who → ℕ → Bool
may_close s closing who place = list_any (closes (has_come s.admissions s.queues closing) who place) s.waits

-- a wait, answered where this is so
abbrev pub answer_where : Bool → Wait → Wait
answer_where so w = if so then record w { answered = true } else w

-- a wait, answered where it is the one that this ends
abbrev pub answer_one : List Admission → List Queue → Closing → Who → ℕ → Wait → Wait
answer_one admissions queues closing who place w =
    answer_where (closes (has_come admissions queues closing) who place w) w

-- the waits after an operation that ends one
abbrev pub answered_waits : State → Closing → Who → ℕ → List Wait
answered_waits s closing who place = map (answer_one s.admissions s.queues closing who place) s.waits

-- the state after an entry that ends a wait
abbrev pub closed : State → Closing → Who → ℕ → State
closed s closing who place = record s { waits = answered_waits s closing who place; entries = s.entries + 1 }

-- the flags of an item in a state
abbrev pub flags_of : State → ℕ → ℕ
flags_of s item =
    flags (item_of s.admissions s.marks item) (is_some (armed s.arms item)) (is_flushing s.admissions s.waits item)

-- what a worker takes up: the first in the queue's line
abbrev pub taken_up : List Admission → ℕ → Option WorkReply
taken_up admissions queue =
    option_and_then (λ number. option_map (λ a. Run a.item number) (slice_get admissions number))
    (first (line admissions queue))

-- the player may take up the next of the queue: it is the queue's worker, and the queue runs nothing
abbrev pub may_begin : List Admission → List Queue → Who → ℕ → Bool
may_begin admissions queues who queue = is_worker queues queue who.number && is_none (run admissions queue)

-- the player may end what the queue runs: it is the queue's worker
abbrev pub may_end : List Admission → List Queue → Who → ℕ → Bool
may_end admissions queues who queue = is_worker queues queue who.number && is_some (run admissions queue)

-- what an item with this delay is answered in a state
abbrev pub delay_reply_in : State → Who → ℕ → ℕ → ℕ → WorkReply
delay_reply_in s who item queue delay = delay_reply (submission_in s (Some who.number) item (Some queue)) delay

-- what a schedule is answered in a state
abbrev pub schedule_reply_in : State → Who → ℕ → ℕ → ℕ → WorkReply
schedule_reply_in s who item queue delay =
    schedule_reply (is_pending_in s item) (submission_in s (Some who.number) item (Some queue)) delay

-- the time after so many ticks more, and the items whose delay is over by then,
-- each with the answer to its submission
abbrev pub announce_reply : State → ℕ → WorkReply
announce_reply s ticks =
    let time = s.time + ticks in
    Now time (expiries s.marks s.queues (due time s.arms) s.admissions)

-- the reply to each operation, where it is possible
abbrev pub work_reply : State → Who → WorkOp → Option WorkReply
work_reply s who (Submit item named) = Some (Sub (submission_in s (Some who.number) item named))
work_reply s who (Cancel item) = Some (Flags (flags_of (cancel s item) item))
work_reply s who (CancelStart item) =
    Some (cancel_start_reply (flags_of s item) (is_some (running s.admissions item)))
work_reply s who (CancelDone place) = if may_close s closings.Cancel who place then Some (Truth true) else None
work_reply s who (FlushStart item) = Some (flush_start_reply (flushed_of s who item))
work_reply s who (FlushDone place) = if may_close s closings.Flush who place then Some (Truth true) else None
work_reply s who (Schedule item queue delay) = Some (schedule_reply_in s who item queue delay)
work_reply s who (Reschedule item queue delay) = Some (delay_reply_in s who item queue delay)
work_reply s who (Remaining item) = Some (Number (remaining (deadline_of s.arms item) s.time))
work_reply s who (Start queue) = Some (start_reply s.queues queue)
work_reply s who (DrainStart queue plug) = Some (drain_reply (is_empty_and_idle s.admissions queue))
work_reply s who (DrainDone place) = if may_close s closings.Drain who place then Some (Number 1) else None
work_reply s who (Unplug queue) = Some (unplug_reply s.queues queue)
work_reply s who (Stop queue) = Some (stop_reply (is_empty_and_idle s.admissions queue) s.queues queue)
work_reply s who (Announce ticks) = Some (announce_reply s ticks)
work_reply s who (Begin queue) =
    if may_begin s.admissions s.queues who queue then taken_up s.admissions queue else None
work_reply s who (End queue) = if may_end s.admissions s.queues who queue then Some Done else None

-- what each operation changes, where it is possible
abbrev pub changed : State → Who → WorkOp → State
changed s who (Submit item named) =
    record s { admissions = submit s.admissions item (submission_in s (Some who.number) item named) }
changed s who (Cancel item) = cancel s item
changed s who (CancelStart item) = cancel_start s who item
changed s who (CancelDone place) = record s { waits = answered_waits s closings.Cancel who place }
changed s who (FlushStart item) = flush_start s who item
changed s who (FlushDone place) = record s { waits = answered_waits s closings.Flush who place }
changed s who (Schedule item queue delay) = schedule s who item queue delay
changed s who (Reschedule item queue delay) = reschedule s who item queue delay
changed s who (Remaining item) = s
changed s who (Start queue) = record s { queues = change changes.Start s.queues queue }
changed s who (DrainStart queue plug) = drain_start s who queue plug
changed s who (DrainDone place) = record s { waits = answered_waits s closings.Drain who place }
changed s who (Unplug queue) = record s { queues = change changes.Unplug s.queues queue }
changed s who (Stop queue) = record s { queues = stop (is_empty_and_idle s.admissions queue) s.queues queue }
changed s who (Announce ticks) = announce s ticks
changed s who (Begin queue) = record s { admissions = begin s.admissions queue }
changed s who (End queue) = end s queue

-- the state after an entry, which is counted
abbrev pub work_next : State → Who → WorkOp → State
work_next s who op = let after = changed s who op in record after { entries = s.entries + 1 }

-- the state after an operation with this reply: nothing changes where there is none
abbrev pub after_reply : State → Who → WorkOp → Option WorkReply → State
after_reply s who op reply = if is_some reply then work_next s who op else s

-- the item and the queue that the operation names are among so many items and queues
abbrev pub is_among : ℕ → ℕ → WorkOp → Bool
is_among items queues (Submit item named) =
    nat_lt item items && option_map_or (λ queue. nat_lt queue queues) named true
is_among items queues (Cancel item) = nat_lt item items
is_among items queues (CancelStart item) = nat_lt item items
is_among items queues (CancelDone place) = true
is_among items queues (FlushStart item) = nat_lt item items
is_among items queues (FlushDone place) = true
is_among items queues (Schedule item queue delay) = nat_lt item items && nat_lt queue queues
is_among items queues (Reschedule item queue delay) = nat_lt item items && nat_lt queue queues
is_among items queues (Remaining item) = nat_lt item items
is_among items queues (Start queue) = nat_lt queue queues
is_among items queues (DrainStart queue plug) = nat_lt queue queues
is_among items queues (DrainDone place) = true
is_among items queues (Unplug queue) = nat_lt queue queues
is_among items queues (Stop queue) = nat_lt queue queues
is_among items queues (Announce ticks) = true
is_among items queues (Begin queue) = nat_lt queue queues
is_among items queues (End queue) = nat_lt queue queues

-- what the operation names is there
abbrev pub in_range : State → WorkOp → Bool
in_range s op = is_among s.items (length s.queues) op

-- the work machine
abbrev pub work_machine : Machine State WorkOp WorkReply
work_machine = record { reply_of = work_reply; next = work_next; in_range = in_range }
