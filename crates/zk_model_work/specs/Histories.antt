use Rattle.std.specs.Prelude.{◌≡◌, ℕ, ◌+◌, ◌<◌, ◌≤◌, ◌⊎◌, Bool, true, false, not, ◌&&◌, ◌||◌, ◌==◌, if◌then◌else◌, Option, Some, None, is_some, option_map, List, [], ◌∷◌, ◌++◌, length, slice_get, All}
use Rattle.std.specs.List.{list_any}
use Rattle.std.specs.Option.{option_or}
use Rattle.zk_base.specs.declared.errors.Errno.{Errno}
use Rattle.zk_base.specs.declared.errors.Errno.TheVariants as errnos
use Rattle.zk_base.specs.declared.ids.Who.{Who}
use Rattle.zk_base.specs.declared.ids.Entry.{Entry}
use Rattle.zk_base.specs.Legal.{state_after, IsLegal}
use Rattle.zk_model_work.specs.declared.ops.WorkOp.{WorkOp}
use Rattle.zk_model_work.specs.declared.ops.WorkOp.TheVariants.{Submit, Cancel, CancelStart, CancelDone, FlushStart, FlushDone, Schedule, Reschedule, Remaining, Start, DrainStart, DrainDone, Unplug, Stop, Announce, Begin, End}
use Rattle.zk_model_work.specs.declared.ops.Submitted.{Submitted}
use Rattle.zk_model_work.specs.declared.ops.Submitted.TheVariants as submitteds
use Rattle.zk_model_work.specs.declared.ops.Expiry.{Expiry}
use Rattle.zk_model_work.specs.declared.ops.WorkReply.{WorkReply}
use Rattle.zk_model_work.specs.declared.ops.WorkReply.TheVariants.{Sub, Flags, Truth, WaitFor, Number, Done, Now, Run}
use Rattle.zk_model_work.specs.declared.ops.WorkReply.TheVariants as replies
use Rattle.zk_model_work.specs.declared.parts.Life.{Life}
use Rattle.zk_model_work.specs.declared.parts.Life.TheVariants.{Waiting, Running, Ended}
use Rattle.zk_model_work.specs.declared.parts.Admission.{Admission}
use Rattle.zk_model_work.specs.declared.parts.Fate.TheVariants.{Live}
use Rattle.zk_model_work.specs.declared.parts.Arm.{Arm}
use Rattle.zk_model_work.specs.declared.parts.Queue.{Queue}
use Rattle.zk_model_work.specs.Questions.{is_open, is_empty_and_idle, waiting, running, running_queue, last_queue, armed}
use Rattle.zk_model_work.specs.State.{State}
use Rattle.zk_model_work.specs.Machine.{work_machine}
use Rattle.zk_model_work.specs.Answers.{drained_of}

-- an entry of the work service
abbrev pub WorkEntry : Type 0
WorkEntry = Entry WorkOp WorkReply

-- a history of it
abbrev pub WorkHistory : Type 0
WorkHistory = List WorkEntry

-- the state after a history
abbrev pub after : State → WorkHistory → State
after start h = state_after work_machine start h

-- a history that the work machine lets stand from a state in which nothing was admitted
pub record IsWorkHistory (start : State) (h : WorkHistory) : Type 0 where
  pub fresh : start.admissions ≡ []
  pub legal : IsLegal work_machine start h

-- one from a state before the first entry, in which nobody waits, no item is armed, no run is marked, no queue drains, and
-- none is plugged
pub record IsFreshHistory (start : State) (h : WorkHistory) : Type 0 where
  pub work : IsWorkHistory start h
  pub first : start.entries ≡ 0
  pub arms : start.arms ≡ []
  pub marks : start.marks ≡ []
  pub waits : start.waits ≡ []
  pub undrained : All (λ q. (q.draining ≡ false) × (q.plugged ≡ false)) start.queues

-- it holds of each entry of a history, with the state before it and the state after it
pub record AtEach (P : State → WorkEntry → State → Type 0) (start : State) (h : WorkHistory) : Type 0 where
  pub each : (front rest : WorkHistory) (e : WorkEntry) → h ≡ front ++ e ∷ rest →
      P (after start front) e (after start (front ++ e ∷ []))

-- it holds of each work history
abbrev pub OfEach : (State → WorkHistory → Type 0) → Type 0
OfEach P = (start : State) (h : WorkHistory) → IsFreshHistory start h → P start h

-- the reply hands out the admission of this number
abbrev pub hands_out : ℕ → WorkReply → Bool
hands_out number (Run item taken) = taken == number
hands_out number _ = false

-- the entry is the begin of the admission of this number
abbrev pub begins : ℕ → WorkEntry → Bool
begins number e = hands_out number e.reply

-- the operation ends what this queue runs
abbrev pub ends : ℕ → WorkOp → Bool
ends queue (End ended) = queue == ended
ends queue _ = false

-- it is a cancel of the item, one that waits or one that doesn't
abbrev pub Cancels : ℕ → WorkOp → Type 0
Cancels item op = (op ≡ Cancel item) ⊎ (op ≡ CancelStart item)

-- the same, as a test
abbrev pub cancels : ℕ → WorkOp → Bool
cancels item (Cancel other) = item == other
cancels item (CancelStart other) = item == other
cancels item op = false

-- it gives up the delay of the item, if it has one
abbrev pub disarms : ℕ → WorkOp → Bool
disarms item (Cancel other) = item == other
disarms item (CancelStart other) = item == other
disarms item (FlushStart other) = item == other
disarms item (Reschedule other queue delay) = item == other
disarms item _ = false

-- who submits what an entry admits: nobody where it is an announce, else its player
abbrev pub submitter : Who → WorkOp → Option ℕ
submitter who (Announce ticks) = None
submitter who op = Some who.number

-- ticks pass by it
abbrev pub announces : WorkOp → Bool
announces (Announce ticks) = true
announces op = false

-- the admission of this number after a history, if it was made
abbrev pub admission_after : State → WorkHistory → ℕ → Option Admission
admission_after start h number = slice_get (after start h).admissions number

-- what has become of it by then
abbrev pub life_after : State → WorkHistory → ℕ → Option Life
life_after start h number = option_map (λ a. a.life) (admission_after start h number)

-- how many admissions a history makes, which is the number of the next one
abbrev pub made_after : State → WorkHistory → ℕ
made_after start h = length (after start h).admissions

-- this admission, of this number, is there later and wasn't before
abbrev pub Makes : State → State → ℕ → Admission → Type 0
Makes before later number a = (length before.admissions ≤ number) × (slice_get later.admissions number ≡ Some a)

-- the admission of this number is the newest of the item that waits or runs
abbrev pub IsNewest : State → ℕ → ℕ → Type 0
IsNewest s item number = (a : Admission) × (slice_get s.admissions number ≡ Some a) × (a.item ≡ item)
    × (is_open a.life ≡ true)
    × ((other : ℕ) (b : Admission) → slice_get s.admissions other ≡ Some b → b.item ≡ item → is_open b.life ≡ true →
    other ≤ number)

-- no admission of the item waits or runs
abbrev pub NoneIsOpen : State → ℕ → Type 0
NoneIsOpen s item = (number : ℕ) (a : Admission) → slice_get s.admissions number ≡ Some a → a.item ≡ item →
    is_open a.life ≡ false

-- the number of the item's running admission after a history, if it runs
abbrev pub running_after : State → WorkHistory → ℕ → Option ℕ
running_after start h item = running (after start h).admissions item

-- the queue of this number after a history
abbrev pub queue_after : State → WorkHistory → ℕ → Option Queue
queue_after start h queue = slice_get (after start h).queues queue

-- no admission to the queue waits or runs after a history
abbrev pub rests_after : State → WorkHistory → ℕ → Bool
rests_after start h queue = is_empty_and_idle (after start h).admissions queue

-- how many drainings of the queue have ended after a history
abbrev pub drained_after : State → WorkHistory → ℕ → ℕ
drained_after start h queue = drained_of (after start h).queues queue

-- the arm of this place after a history, if it was made
abbrev pub arm_after : State → WorkHistory → ℕ → Option Arm
arm_after start h place = slice_get (after start h).arms place

-- the ticks that have passed after a history
abbrev pub time_after : State → WorkHistory → ℕ
time_after start h = (after start h).time

-- an earlier cancel of the item found a run that goes on still: the item is being cancelled
pub record IsBeingCancelled (start : State) (h : WorkHistory) (item : ℕ) : Type 0 where
  pub before : WorkHistory
  pub since : WorkHistory
  pub cancel : WorkEntry
  pub run : ℕ
  pub parts : h ≡ before ++ cancel ∷ since
  pub cancels : Cancels item cancel.op
  pub found : running_after start before item ≡ Some run
  pub runs : life_after start h run ≡ Some Running

-- the reply tells the player to wait for this admission
abbrev pub awaits : ℕ → WorkReply → Bool
awaits number (WaitFor other) = number == other
awaits number reply = false

-- an earlier flush was told to wait for an admission of the item that waits or runs still: the item is being flushed
pub record IsBeingFlushed (start : State) (h : WorkHistory) (item : ℕ) : Type 0 where
  pub number : ℕ
  pub a : Admission
  pub told : list_any (λ e. awaits number e.reply) h ≡ true
  pub there : admission_after start h number ≡ Some a
  pub same : a.item ≡ item
  pub goes_on : is_open a.life ≡ true

-- the queue that runs the item, else the named one, else that of its last admission
abbrev pub target_of : State → ℕ → Option ℕ → Option ℕ
target_of s item named = option_or (running_queue s.admissions item) (option_or named (last_queue s.admissions item))

-- the submitter is the queue's worker
abbrev pub is_own : Queue → Option ℕ → Bool
is_own q None = false
is_own q (Some player) = player == q.worker

-- a started queue takes no submission of this submitter: it drains and isn't the submitter's own, or it is plugged and
-- doesn't drain
abbrev pub queue_refuses : Queue → Option ℕ → Bool
queue_refuses q caller = (q.draining && not (is_own q caller)) || (q.plugged && not q.draining)

-- the item has a live arm, which is for this queue
abbrev pub IsArmedFor : State → ℕ → ℕ → Type 0
IsArmedFor s item queue = (place : ℕ) × (a : Arm) × (slice_get s.arms place ≡ Some a) × (a.item ≡ item)
    × (a.fate ≡ Live) × (a.queue ≡ queue)

-- the queue, if any, that an operation names for an item that it submits: an announce and a flush name that of the item's
-- live arm
abbrev pub Named : State → WorkOp → ℕ → Option ℕ → Type 0
Named s (Submit other queue) item named = named ≡ queue
Named s (Schedule other queue delay) item named = named ≡ Some queue
Named s (Reschedule other queue delay) item named = named ≡ Some queue
Named s (FlushStart other) item named = (queue : ℕ) × (named ≡ Some queue) × IsArmedFor s item queue
Named s (Announce ticks) item named = (queue : ℕ) × (named ≡ Some queue) × IsArmedFor s item queue
Named s op item named = ⊥

-- by this reply to the operation the item was submitted, and its submission answered so; of a schedule the 0 apart
abbrev pub IsSubmission : WorkOp → WorkReply → ℕ → Submitted → Type 0
IsSubmission (Submit other queue) (Sub told) item answer = (other ≡ item) × (told ≡ answer)
IsSubmission (Schedule other queue delay) (Sub told) item answer = (other ≡ item) × (told ≡ answer)
    × (answer ≡ submitteds.Already → ⊥)
IsSubmission (Reschedule other queue delay) (Sub told) item answer = (other ≡ item) × (told ≡ answer)
IsSubmission (Announce ticks) (Now time told) item answer =
    (number : ℕ) × (x : Expiry) × (slice_get told number ≡ Some x) × (x.item ≡ item) × (x.submitted ≡ answer)
IsSubmission op reply item answer = ⊥

-- what an answer to a submission says is so: 1 and 2 make an admission that waits, 2 of an item that ran; 0 is of one that
-- waited
abbrev pub AnswerHolds : State → State → ℕ → Submitted → Type 0
AnswerHolds before later item (submitteds.Fresh number queue) =
    Makes before later number (record { item = item; queue = queue; life = Waiting })
    × (is_some (running before.admissions item) ≡ false)
AnswerHolds before later item (submitteds.Rerun number queue) =
    Makes before later number (record { item = item; queue = queue; life = Waiting })
    × (is_some (running before.admissions item) ≡ true)
AnswerHolds before later item submitteds.Already = is_some (waiting before.admissions item) ≡ true
AnswerHolds before later item (submitteds.Refused cause) = Unit {0}

-- the number of the admission that an answer to a submission tells, if it tells one
abbrev pub told_number : Submitted → Option ℕ
told_number (submitteds.Fresh number queue) = Some number
told_number (submitteds.Rerun number queue) = Some number
told_number answer = None

-- the flags that a cancel tells: none where the item doesn't run; else that it runs and is being cancelled, and whether a
-- flush awaits that run
abbrev pub cancel_flags : WorkHistory → Option ℕ → ℕ
cancel_flags front None = 0
cancel_flags front (Some run) = if list_any (λ e. awaits run e.reply) front then 19 else 3

-- it tells a player that the wait which began with the entry of this place is over
abbrev pub is_done_of : ℕ → WorkOp → Bool
is_done_of place (CancelDone other) = place == other
is_done_of place (FlushDone other) = place == other
is_done_of place (DrainDone other) = place == other
is_done_of place op = false

-- the first of these tells the end of what the second one starts
abbrev pub ends_wait_of : WorkOp → WorkOp → Bool
ends_wait_of (CancelDone place) (CancelStart item) = true
ends_wait_of (FlushDone place) (FlushStart item) = true
ends_wait_of (DrainDone place) (DrainStart queue plug) = true
ends_wait_of op other = false

-- what tells the end of the wait that this operation starts at this place
abbrev pub done_for : WorkOp → ℕ → WorkOp
done_for (CancelStart item) place = CancelDone place
done_for (FlushStart item) place = FlushDone place
done_for (DrainStart queue plug) place = DrainDone place
done_for op place = op

-- the reply tells the player to wait
abbrev pub has_to_wait : WorkReply → Bool
has_to_wait replies.Wait = true
has_to_wait (WaitFor number) = true
has_to_wait reply = false

-- why a submission after a history is refused: busy where the item is being cancelled, or its target is started and bars
-- the submitter; else nodev where its target isn't started, and inval where it has none
abbrev pub IsCause : State → WorkHistory → State → Option ℕ → ℕ → Option ℕ → Errno → Type 0
IsCause start front s caller item named errnos.Busy = IsBeingCancelled start front item
    ⊎ ((queue : ℕ) × (q : Queue) × (target_of s item named ≡ Some queue) × (slice_get s.queues queue ≡ Some q)
    × (q.started ≡ true) × (queue_refuses q caller ≡ true))
IsCause start front s caller item named errnos.NoDev = (IsBeingCancelled start front item → ⊥)
    × ((queue : ℕ) × (q : Queue) × (target_of s item named ≡ Some queue) × (slice_get s.queues queue ≡ Some q)
    × (q.started ≡ false))
IsCause start front s caller item named errnos.Inval = (IsBeingCancelled start front item → ⊥)
    × ((queue : ℕ) (q : Queue) → target_of s item named ≡ Some queue → slice_get s.queues queue ≡ Some q → ⊥)
IsCause start front s caller item named cause = ⊥

-- the item is delayed, waits or is being cancelled after a history
abbrev pub IsPending : State → WorkHistory → ℕ → Type 0
IsPending start h item = (is_some (armed (after start h).arms item) ≡ true)
    ⊎ ((is_some (waiting (after start h).admissions item) ≡ true) ⊎ IsBeingCancelled start h item)

-- at this place of a history stands a start of the player that had to wait, and that hasn't been told to be done; this
-- operation tells it
pub record HasStart (front : WorkHistory) (who : Who) (op : WorkOp) (place : ℕ) : Type 0 where
  pub before : WorkHistory
  pub since : WorkHistory
  pub first : WorkEntry
  pub parts : front ≡ before ++ first ∷ since
  pub at : length before ≡ place
  pub same : first.who.number ≡ who.number
  pub starts : ends_wait_of op first.op ≡ true
  pub waits : has_to_wait first.reply ≡ true
  pub untold : list_any (λ e. is_done_of place e.op) since ≡ false

-- what an operation waits for that was done after one history and before another one has come:
-- the run found has ended, the admission told neither waits nor runs, the queue has rested at some moment
abbrev pub HasCome : State → WorkHistory → WorkEntry → WorkHistory → WorkOp → Type 0
HasCome start before first since (CancelStart item) =
    (run : ℕ) × (running_after start before item ≡ Some run) × (life_after start (before ++ first ∷ since) run ≡ Some Ended)
HasCome start before first since (FlushStart item) =
    (number : ℕ) × (first.reply ≡ WaitFor number)
    × (option_map is_open (life_after start (before ++ first ∷ since) number) ≡ Some false)
HasCome start before first since (DrainStart queue plug) =
    (soon late : WorkHistory) × (since ≡ soon ++ late) × (rests_after start (before ++ first ∷ soon) queue ≡ true)
HasCome start before first since op = ⊥

-- the ticks that pass by an operation
abbrev pub ticks_of : WorkOp → ℕ
ticks_of (Announce ticks) = ticks
ticks_of op = 0

-- it starts a drain of the queue
abbrev pub drains : ℕ → WorkOp → Bool
drains queue (DrainStart other plug) = queue == other
drains queue op = false

-- the worker of the queue does it
abbrev pub is_worked_by : ℕ → WorkOp → Bool
is_worked_by queue (Begin other) = queue == other
is_worked_by queue (End other) = queue == other
is_worked_by queue op = false

-- whether the queue is plugged after an operation, where this says whether it was before
abbrev pub plug_after : ℕ → WorkOp → Bool → Bool
plug_after queue (DrainStart other plug) was = was || (plug && (queue == other))
plug_after queue (Unplug other) was = was && not (queue == other)
plug_after queue op was = was

-- whether the queue is started after an operation with this reply, where this says whether it was before
abbrev pub started_after : ℕ → WorkOp → WorkReply → Bool → Bool
started_after queue (Start other) reply was = was || (queue == other)
started_after queue (Stop other) Done was = was && not (queue == other)
started_after queue op reply was = was

-- the arm that an operation asks for at this time
abbrev pub asked_arm : ℕ → WorkOp → List Arm
asked_arm time (Schedule item queue delay) = record { item = item; queue = queue; deadline = time + delay; fate = Live } ∷ []
asked_arm time (Reschedule item queue delay) = record { item = item; queue = queue; deadline = time + delay; fate = Live } ∷ []
asked_arm time op = []

-- the reply says that the item is delayed from now on
abbrev pub is_armed : WorkReply → Bool
is_armed replies.Armed = true
is_armed reply = false

-- the answer is of the form that answers to this operation have
abbrev pub fits : WorkOp → WorkReply → Bool
fits (Submit item named) (Sub answer) = true
fits (Cancel item) (Flags flags) = true
fits (CancelStart item) replies.Wait = true
fits (CancelStart item) (Truth b) = true
fits (CancelDone place) (Truth b) = b
fits (FlushStart item) (WaitFor number) = true
fits (FlushStart item) (Truth b) = not b
fits (FlushDone place) (Truth b) = b
fits (Schedule item queue delay) (Sub answer) = true
fits (Schedule item queue delay) replies.Armed = true
fits (Reschedule item queue delay) (Sub answer) = true
fits (Reschedule item queue delay) replies.Armed = true
fits (Remaining item) (Number n) = true
fits (Start queue) Done = true
fits (Start queue) replies.Already = true
fits (DrainStart queue plug) (Number n) = n == 0
fits (DrainStart queue plug) replies.Wait = true
fits (DrainDone place) (Number n) = n == 1
fits (Unplug queue) Done = true
fits (Unplug queue) replies.Already = true
fits (Stop queue) Done = true
fits (Stop queue) replies.Already = true
fits (Stop queue) replies.Busy = true
fits (Announce ticks) (Now time told) = true
fits (Begin queue) (Run item number) = true
fits (End queue) Done = true
fits op reply = false

-- a player may make this entry after a history: there is an answer
abbrev pub MayGoOn : State → WorkHistory → Who → WorkOp → Type 0
MayGoOn start h who op = (reply : WorkReply) × (work_machine.reply_of (after start h) who op ≡ Some reply)

-- it has to be waited for: it is a begin, an end, or tells a player that its wait is over
abbrev pub is_awaited : WorkOp → Bool
is_awaited (CancelDone place) = true
is_awaited (FlushDone place) = true
is_awaited (DrainDone place) = true
is_awaited (Begin queue) = true
is_awaited (End queue) = true
is_awaited op = false

-- a live arm of this place that is over by this time
abbrev pub IsDueAt : State → ℕ → ℕ → Arm → Type 0
IsDueAt s time place a = (slice_get s.arms place ≡ Some a) × (a.fate ≡ Live) × (a.deadline ≤ time)

-- told are just the items of the arms that are over by this time; of two the earlier has the lower deadline, or the same and the
-- lower place
pub record AreToldInOrder (s : State) (time : ℕ) (told : List Expiry) : Type 0 where
  pub over : (number : ℕ) (x : Expiry) → slice_get told number ≡ Some x →
      (place : ℕ) × (a : Arm) × IsDueAt s time place a × (a.item ≡ x.item)
  pub all : (place : ℕ) (a : Arm) → IsDueAt s time place a →
      (number : ℕ) × (x : Expiry) × (slice_get told number ≡ Some x) × (x.item ≡ a.item)
  pub order : (number next place other : ℕ) (x y : Expiry) (a b : Arm) → number < next →
      slice_get told number ≡ Some x → slice_get told next ≡ Some y → IsDueAt s time place a → IsDueAt s time other b →
      a.item ≡ x.item → b.item ≡ y.item → (a.deadline < b.deadline) ⊎ ((a.deadline ≡ b.deadline) × (place < other))
