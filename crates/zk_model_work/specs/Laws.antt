use Rattle.std.specs.Prelude.{◌≡◌, ℕ, ◌+◌, ◌-◌, ◌<◌, ◌≤◌, ◌⊎◌, Bool, true, false, not, ◌&&◌, ◌||◌, ◌==◌, nat_le, if◌then◌else◌, count_by, Option, Some, is_some, option_map, List, [], ◌∷◌, ◌++◌, length, drop, slice_get}
use Rattle.std.specs.List.{list_any}
use Rattle.zk_base.specs.declared.errors.Errno.{Errno}
use Rattle.zk_base.specs.declared.ids.Who.{Who}
use Rattle.zk_model_work.specs.declared.ops.WorkOp.{WorkOp}
use Rattle.zk_model_work.specs.declared.ops.WorkOp.TheVariants.{Cancel, CancelStart, CancelDone, FlushStart, FlushDone, Schedule, Reschedule, Remaining, Start, DrainStart, DrainDone, Unplug, Stop, Announce, Begin, End}
use Rattle.zk_model_work.specs.declared.ops.Submitted.{Submitted}
use Rattle.zk_model_work.specs.declared.ops.Submitted.TheVariants as submitteds
use Rattle.zk_model_work.specs.declared.ops.Expiry.{Expiry}
use Rattle.zk_model_work.specs.declared.ops.WorkReply.TheVariants.{Sub, Flags, Truth, WaitFor, Number, Done, Now, Run}
use Rattle.zk_model_work.specs.declared.ops.WorkReply.TheVariants as replies
use Rattle.zk_model_work.specs.declared.parts.Life.{Life}
use Rattle.zk_model_work.specs.declared.parts.Life.TheVariants.{Waiting, Running, Ended, Dropped}
use Rattle.zk_model_work.specs.declared.parts.Admission.{Admission}
use Rattle.zk_model_work.specs.declared.parts.Fate.TheVariants.{Live, Expired, Disarmed}
use Rattle.zk_model_work.specs.declared.parts.Arm.{Arm}
use Rattle.zk_model_work.specs.declared.parts.Queue.{Queue}
use Rattle.zk_model_work.specs.Questions.{is_waiting, is_open, is_live, is_empty_and_idle, waiting, running, armed}
use Rattle.zk_model_work.specs.State.{State}
use Rattle.zk_model_work.specs.Machine.{flags_of}
use Rattle.zk_model_work.specs.Answers.{drained_of}
use Rattle.zk_model_work.specs.Histories.{AreToldInOrder, WorkEntry, WorkHistory, after, AtEach, hands_out, begins, ends, Cancels, cancels, disarms, submitter, announces, admission_after, life_after, made_after, Makes, IsNewest, NoneIsOpen, running_after, queue_after, rests_after, drained_after, arm_after, time_after, IsBeingCancelled, IsBeingFlushed, target_of, queue_refuses, IsArmedFor, Named, IsSubmission, AnswerHolds, told_number, cancel_flags, is_done_of, done_for, has_to_wait, IsCause, IsPending, HasStart, HasCome, ticks_of, drains, is_worked_by, plug_after, started_after, asked_arm, is_armed, fits, MayGoOn, is_awaited}

-- Each of what follows is said of one history.

-- Runs once.

-- an admission stays, with its item and its queue
abbrev pub AdmissionStays : State → WorkHistory → Type 0
AdmissionStays start h = (front rest : WorkHistory) (number : ℕ) (a : Admission) → h ≡ front ++ rest →
    admission_after start front number ≡ Some a →
    (b : Admission) × (admission_after start h number ≡ Some b) × (b.item ≡ a.item) × (b.queue ≡ a.queue)

-- one that has ended or was dropped stays so
abbrev pub OutcomeStays : State → WorkHistory → Type 0
OutcomeStays start h = (front rest : WorkHistory) (number : ℕ) (a : Admission) → h ≡ front ++ rest →
    admission_after start front number ≡ Some a → is_open a.life ≡ false → admission_after start h number ≡ Some a

-- an admission is begun by a begin on its queue, waits just before it, and runs just after it
abbrev pub BegunFromItsQueue : State → WorkHistory → Type 0
BegunFromItsQueue = AtEach (λ before e later. (item number : ℕ) → e.reply ≡ Run item number → (queue : ℕ)
    × (e.op ≡ Begin queue)
    × (slice_get before.admissions number ≡ Some (record { item = item; queue = queue; life = Waiting }))
    × (slice_get later.admissions number ≡ Some (record { item = item; queue = queue; life = Running })))

-- each admission is begun at most once
abbrev pub EachBegunOnce : State → WorkHistory → Type 0
EachBegunOnce start h = (number : ℕ) → count_by (begins number) h ≤ 1

-- an admission that was dropped at some time is never begun, neither before nor after
abbrev pub DroppedNeverBegun : State → WorkHistory → Type 0
DroppedNeverBegun start h = (front rest : WorkHistory) (number : ℕ) → h ≡ front ++ rest →
    life_after start front number ≡ Some Dropped → count_by (begins number) h ≡ 0

-- an admission that neither waits nor runs any more was begun once and has ended, or was dropped and never begun
abbrev pub RunOrDropped : State → WorkHistory → Type 0
RunOrDropped start h = (number : ℕ) (life : Life) → life_after start h number ≡ Some life → is_open life ≡ false →
    ((life ≡ Ended) × (count_by (begins number) h ≡ 1)) ⊎ ((life ≡ Dropped) × (count_by (begins number) h ≡ 0))

-- each admission is run or dropped, once
pub record RunsOnce (start : State) (h : WorkHistory) : Type 0 where
  pub kept : AdmissionStays start h
  pub over : OutcomeStays start h
  pub begun : BegunFromItsQueue start h
  pub once : EachBegunOnce start h
  pub dropped : DroppedNeverBegun start h
  pub outcome : RunOrDropped start h

-- In order.

-- where a worker takes up an admission, none to its queue with a lower number waits: each was begun before, or dropped
abbrev pub NoneWaitsBefore : State → WorkHistory → Type 0
NoneWaitsBefore = AtEach (λ before e later. (queue item number lower : ℕ) (a : Admission) → e.op ≡ Begin queue →
    e.reply ≡ Run item number →
    lower < number → slice_get before.admissions lower ≡ Some a → a.queue ≡ queue → is_waiting a.life ≡ false)

-- the begins on one queue rise in the number of the admission
abbrev pub BeginsRise : State → WorkHistory → Type 0
BeginsRise start h = (front between rest : WorkHistory) (first second : WorkEntry) (queue item next_item number next : ℕ) →
    h ≡ front ++ first ∷ (between ++ second ∷ rest) → first.op ≡ Begin queue → first.reply ≡ Run item number →
    second.op ≡ Begin queue → second.reply ≡ Run next_item next → number < next

-- each queue runs its admissions in the order of their numbers
pub record BeginsInOrder (start : State) (h : WorkHistory) : Type 0 where
  pub first : NoneWaitsBefore start h
  pub rise : BeginsRise start h

-- Never overlaps.

-- of two admissions of an item that wait or run the lower one runs, and the other waits for its queue; so one waits at
-- most, and one runs
abbrev pub OneWaitsOneRuns : State → WorkHistory → Type 0
OneWaitsOneRuns start h = (lower higher : ℕ) (a b : Admission) → lower < higher → admission_after start h lower ≡ Some a →
    admission_after start h higher ≡ Some b → a.item ≡ b.item → is_open a.life ≡ true → is_open b.life ≡ true →
    (a.life ≡ Running) × (b.life ≡ Waiting) × (a.queue ≡ b.queue)

-- a queue runs one admission at most
abbrev pub OneRunsOnAQueue : State → WorkHistory → Type 0
OneRunsOnAQueue start h = (number other : ℕ) (a b : Admission) → admission_after start h number ≡ Some a →
    admission_after start h other ≡ Some b → a.queue ≡ b.queue → a.life ≡ Running → b.life ≡ Running → number ≡ other

-- an admission that runs goes on until an end at its queue
abbrev pub RunsToItsEnd : State → WorkHistory → Type 0
RunsToItsEnd start h = (front between : WorkHistory) (number : ℕ) (a : Admission) → h ≡ front ++ between →
    admission_after start front number ≡ Some a → a.life ≡ Running →
    list_any (λ e. ends a.queue e.op) between ≡ false → admission_after start h number ≡ Some a

-- and is ended by it
abbrev pub EndedByItsEnd : State → WorkHistory → Type 0
EndedByItsEnd = AtEach (λ before e later. (number : ℕ) (a : Admission) → slice_get before.admissions number ≡ Some a →
    a.life ≡ Running →
    ends a.queue e.op ≡ true → slice_get later.admissions number ≡ Some (record a { life = Ended }))

-- between two begins of one item, on whatever queues, stands an end at the queue of the first
abbrev pub EndsBetweenBegins : State → WorkHistory → Type 0
EndsBetweenBegins start h = (front between rest : WorkHistory) (first second : WorkEntry) (queue item number next : ℕ) →
    h ≡ front ++ first ∷ (between ++ second ∷ rest) → first.op ≡ Begin queue → first.reply ≡ Run item number →
    second.reply ≡ Run item next → list_any (λ e. ends queue e.op) between ≡ true

-- begins and ends are of the queue's worker
abbrev pub ByItsWorker : State → WorkHistory → Type 0
ByItsWorker = AtEach (λ before e later. (queue : ℕ) → is_worked_by queue e.op ≡ true →
    (q : Queue) × (slice_get before.queues queue ≡ Some q) × (e.who.number ≡ q.worker))

-- an end finds a run of its queue
abbrev pub EndFindsARun : State → WorkHistory → Type 0
EndFindsARun = AtEach (λ before e later. (queue : ℕ) → e.op ≡ End queue →
    (number : ℕ) × (a : Admission) × (slice_get before.admissions number ≡ Some a) × (a.queue ≡ queue) × (a.life ≡ Running))

-- an item never overlaps itself, and a queue runs one admission at a time, from a begin to an end of its worker
pub record NeverOverlaps (start : State) (h : WorkHistory) : Type 0 where
  pub one : OneWaitsOneRuns start h
  pub queue : OneRunsOnAQueue start h
  pub ends : RunsToItsEnd start h
  pub ended : EndedByItsEnd start h
  pub between : EndsBetweenBegins start h
  pub worker : ByItsWorker start h
  pub found : EndFindsARun start h

-- Submissions.

-- an admission is made only by a submission that tells its number and queue, or a flush that waits for it, and it waits
abbrev pub MadeWaiting : State → WorkHistory → Type 0
MadeWaiting = AtEach (λ before e later. (number : ℕ) (a : Admission) → Makes before later number a → (a.life ≡ Waiting)
    × (IsSubmission e.op e.reply a.item (submitteds.Fresh number a.queue)
    ⊎ (IsSubmission e.op e.reply a.item (submitteds.Rerun number a.queue)
    ⊎ ((e.op ≡ FlushStart a.item) × (e.reply ≡ WaitFor number)))))

-- it waits on, unchanged, until a begin hands it out or a cancel of its item drops it
abbrev pub WaitsOn : State → WorkHistory → Type 0
WaitsOn = AtEach (λ before e later. (number : ℕ) (a : Admission) → slice_get before.admissions number ≡ Some a →
    a.life ≡ Waiting →
    hands_out number e.reply ≡ false →
    slice_get later.admissions number ≡ Some (if cancels a.item e.op then record a { life = Dropped } else a))

-- what the answer to a submission says is so
abbrev pub AnsweredIsMade : State → WorkHistory → Type 0
AnsweredIsMade = AtEach (λ before e later. (item : ℕ) (answer : Submitted) → IsSubmission e.op e.reply item answer →
    AnswerHolds before later item answer)

-- a submission of an item that waits is answered 0
abbrev pub AlreadyWhereItWaits : State → WorkHistory → Type 0
AlreadyWhereItWaits = AtEach (λ before e later. (item : ℕ) (answer : Submitted) → IsSubmission e.op e.reply item answer →
    is_some (waiting before.admissions item) ≡ true → answer ≡ submitteds.Already)

-- a submission is refused for its cause
abbrev pub RefusedWithCause : State → WorkHistory → Type 0
RefusedWithCause start h = (front rest : WorkHistory) (e : WorkEntry) (item : ℕ) (named : Option ℕ) (cause : Errno) →
    h ≡ front ++ e ∷ rest →
    IsSubmission e.op e.reply item (submitteds.Refused cause) → Named (after start front) e.op item named →
    IsCause start front (after start front) (submitter e.who e.op) item named cause

-- an admission is made to the target of its submission
abbrev pub GoesToItsQueue : State → WorkHistory → Type 0
GoesToItsQueue = AtEach (λ before e later. (number : ℕ) (a : Admission) (named : Option ℕ) → Makes before later number a →
    Named before e.op a.item named → target_of before a.item named ≡ Some a.queue)

-- and that queue is started
abbrev pub StartedAdmits : State → WorkHistory → Type 0
StartedAdmits = AtEach (λ before e later. (number : ℕ) (a : Admission) → Makes before later number a →
    (q : Queue) × (slice_get before.queues a.queue ≡ Some q) × (q.started ≡ true))

-- a submission is answered as it is
pub record SubmissionsHold (start : State) (h : WorkHistory) : Type 0 where
  pub made : MadeWaiting start h
  pub waits : WaitsOn start h
  pub so : AnsweredIsMade start h
  pub already : AlreadyWhereItWaits start h
  pub refused : RefusedWithCause start h
  pub queue : GoesToItsQueue start h
  pub started : StartedAdmits start h

-- Cancels.

-- after a cancel no admission of its item waits
abbrev pub NoneWaitsAfterCancel : State → WorkHistory → Type 0
NoneWaitsAfterCancel = AtEach (λ before e later. (item number : ℕ) (a : Admission) → Cancels item e.op →
    slice_get later.admissions number ≡ Some a → a.item ≡ item → is_waiting a.life ≡ false)

-- and where it found a run, no admission of the item is made until that run has ended
abbrev pub NoneMadeDuringCancel : State → WorkHistory → Type 0
NoneMadeDuringCancel start h = (front during rest : WorkHistory) (e next : WorkEntry) (item run number : ℕ) (a : Admission) →
    h ≡ front ++ e ∷ (during ++ next ∷ rest) → Cancels item e.op → running_after start front item ≡ Some run →
    life_after start (front ++ e ∷ during) run ≡ Some Running →
    Makes (after start (front ++ e ∷ during)) (after start ((front ++ e ∷ during) ++ next ∷ [])) number a →
    a.item ≡ item → ⊥

-- each begin of an item after a cancel of it is of an admission made after the cancel
abbrev pub BegunMadeAfterCancel : State → WorkHistory → Type 0
BegunMadeAfterCancel start h = (front between rest : WorkHistory) (e later : WorkEntry) (item number : ℕ) →
    h ≡ front ++ e ∷ (between ++ later ∷ rest) → Cancels item e.op → later.reply ≡ Run item number →
    made_after start (front ++ e ∷ []) ≤ number

-- and, where the cancel found a run, of an admission made after the end of that run
abbrev pub BegunMadeAfterRun : State → WorkHistory → Type 0
BegunMadeAfterRun start h = (front during between rest : WorkHistory) (e later : WorkEntry) (item run number : ℕ) →
    h ≡ front ++ e ∷ (during ++ (between ++ later ∷ rest)) → Cancels item e.op → running_after start front item ≡ Some run →
    life_after start (front ++ e ∷ during) run ≡ Some Running → later.reply ≡ Run item number →
    made_after start (front ++ e ∷ during) ≤ number

-- a sync cancel that found a run is told to be done only after that run has ended
abbrev pub CancelDoneAfterRun : State → WorkHistory → Type 0
CancelDoneAfterRun start h = (front between rest : WorkHistory) (first done : WorkEntry) (item run : ℕ) →
    h ≡ front ++ first ∷ (between ++ done ∷ rest) → first.op ≡ CancelStart item → running_after start front item ≡ Some run →
    done.op ≡ CancelDone (length front) → life_after start (front ++ first ∷ between) run ≡ Some Ended

-- a cancel tells whether the item runs after it, and whether an earlier flush waits for that run
abbrev pub CancelTellsTheRun : State → WorkHistory → Type 0
CancelTellsTheRun start h = (front rest : WorkHistory) (e : WorkEntry) (item : ℕ) → h ≡ front ++ e ∷ rest →
    e.op ≡ Cancel item → e.reply ≡ Flags (cancel_flags front (running_after start (front ++ e ∷ []) item))

-- a sync cancel waits where the item runs; else it tells whether one of it waited or was to come after a delay
abbrev pub CancelStartTellsTheRun : State → WorkHistory → Type 0
CancelStartTellsTheRun = AtEach (λ before e later. (item : ℕ) → e.op ≡ CancelStart item →
    e.reply ≡ (if is_some (running before.admissions item) then replies.Wait
    else Truth (is_some (waiting before.admissions item) || is_some (armed before.arms item))))

-- a cancel holds
pub record CancelsHold (start : State) (h : WorkHistory) : Type 0 where
  pub empty : NoneWaitsAfterCancel start h
  pub none : NoneMadeDuringCancel start h
  pub after : BegunMadeAfterCancel start h
  pub run : BegunMadeAfterRun start h
  pub done : CancelDoneAfterRun start h
  pub told : CancelTellsTheRun start h
  pub waits : CancelStartTellsTheRun start h

-- Flushes.

-- a flush that waits for an admission is told to be done only after that admission has ended or was dropped
abbrev pub FlushDoneAfterItsEnd : State → WorkHistory → Type 0
FlushDoneAfterItsEnd start h = (front between rest : WorkHistory) (first done : WorkEntry) (item number : ℕ) →
    h ≡ front ++ first ∷ (between ++ done ∷ rest) → first.op ≡ FlushStart item → first.reply ≡ WaitFor number →
    done.op ≡ FlushDone (length front) → option_map is_open (life_after start (front ++ first ∷ between) number) ≡ Some false

-- a flush waits for the newest admission of the item that waits or runs after it, and is answered false where there is none
abbrev pub FlushWaitsForNewest : State → WorkHistory → Type 0
FlushWaitsForNewest = AtEach (λ before e later. (item : ℕ) → e.op ≡ FlushStart item →
    ((number : ℕ) × (e.reply ≡ WaitFor number) × IsNewest later item number) ⊎ ((e.reply ≡ Truth false)
    × NoneIsOpen later item))

-- a flush of an item with a live arm submits it, as its player: then one of it waits, unless it was being cancelled or its
-- target takes nothing of that player; without a live arm it makes nothing
abbrev pub FlushHurries : State → WorkHistory → Type 0
FlushHurries start h = (front rest : WorkHistory) (e : WorkEntry) (item : ℕ) → h ≡ front ++ e ∷ rest →
    e.op ≡ FlushStart item →
    ((queue target : ℕ) (q : Queue) → IsArmedFor (after start front) item queue → (IsBeingCancelled start front item → ⊥) →
    target_of (after start front) item (Some queue) ≡ Some target →
    slice_get (after start front).queues target ≡ Some q → q.started ≡ true → queue_refuses q (Some e.who.number) ≡ false →
    is_some (waiting (after start (front ++ e ∷ [])).admissions item) ≡ true)
    × (((queue : ℕ) → IsArmedFor (after start front) item queue → ⊥) →
    (after start (front ++ e ∷ [])).admissions ≡ (after start front).admissions)

-- a flush holds
pub record FlushesHold (start : State) (h : WorkHistory) : Type 0 where
  pub done : FlushDoneAfterItsEnd start h
  pub newest : FlushWaitsForNewest start h
  pub hurries : FlushHurries start h

-- Drains and plugs.

-- while a queue drains, each admission to it is submitted by its own worker
abbrev pub DrainAdmitsItsOwn : State → WorkHistory → Type 0
DrainAdmitsItsOwn = AtEach (λ before e later. (queue number : ℕ) (q : Queue) (a : Admission) →
    slice_get before.queues queue ≡ Some q →
    q.draining ≡ true → Makes before later number a → a.queue ≡ queue → submitter e.who e.op ≡ Some q.worker)

-- while a queue is plugged and doesn't drain, no admission to it is made
abbrev pub PluggedAdmitsNone : State → WorkHistory → Type 0
PluggedAdmitsNone = AtEach (λ before e later. (queue number : ℕ) (q : Queue) (a : Admission) →
    slice_get before.queues queue ≡ Some q →
    q.plugged ≡ true → q.draining ≡ false → Makes before later number a → a.queue ≡ queue → ⊥)

-- a queue drains only as long as something of it waits or runs
abbrev pub DrainsUntilItRests : State → WorkHistory → Type 0
DrainsUntilItRests start h = (queue : ℕ) (q : Queue) → queue_after start h queue ≡ Some q → q.draining ≡ true →
    rests_after start h queue ≡ false

-- a queue that is plugged and doesn't drain is empty and idle
abbrev pub PluggedRests : State → WorkHistory → Type 0
PluggedRests start h = (queue : ℕ) (q : Queue) → queue_after start h queue ≡ Some q → q.plugged ≡ true → q.draining ≡ false →
    rests_after start h queue ≡ true

-- a draining begins at the start of a drain, and goes on until an entry leaves its queue at rest; there it is counted
abbrev pub DrainingStays : State → WorkHistory → Type 0
DrainingStays = AtEach (λ before e later. (queue : ℕ) (q r : Queue) →
    slice_get before.queues queue ≡ Some q → slice_get later.queues queue ≡ Some r →
    (r.draining ≡ ((q.draining || drains queue e.op) && not (is_empty_and_idle later.admissions queue)))
    × (r.drained ≡ q.drained + (if q.draining && not r.draining then 1 else 0)))

-- a draining ends at an entry that leaves the queue empty and idle, and nowhere else are its drainings counted
abbrev pub DrainEndsAtRest : State → WorkHistory → Type 0
DrainEndsAtRest = AtEach (λ before e later. (queue : ℕ) → drained_of before.queues queue < drained_of later.queues queue →
    is_empty_and_idle later.admissions queue ≡ true)

-- a drain that had to wait is told to be done only after a draining of its queue has ended
abbrev pub DrainDoneAfterItsEnd : State → WorkHistory → Type 0
DrainDoneAfterItsEnd start h = (front between rest : WorkHistory) (first done : WorkEntry) (queue : ℕ) (plug : Bool) →
    h ≡ front ++ first ∷ (between ++ done ∷ rest) → first.op ≡ DrainStart queue plug → done.op ≡ DrainDone (length front) →
    drained_after start front queue < drained_after start (front ++ first ∷ between) queue

-- a drain is answered 0 where its queue rests; else it waits, and the queue drains
abbrev pub DrainTells : State → WorkHistory → Type 0
DrainTells = AtEach (λ before e later. (queue : ℕ) (plug : Bool) → e.op ≡ DrainStart queue plug →
    (e.reply ≡ (if is_empty_and_idle before.admissions queue then Number 0 else replies.Wait))
    × ((r : Queue) → slice_get later.queues queue ≡ Some r → r.draining ≡ not (is_empty_and_idle before.admissions queue)))

-- a plug is set by the start of a drain that asks for it, taken by an unplug, and else stays as it was
abbrev pub PluggedAsAsked : State → WorkHistory → Type 0
PluggedAsAsked = AtEach (λ before e later. (queue : ℕ) (q r : Queue) →
    slice_get before.queues queue ≡ Some q → slice_get later.queues queue ≡ Some r →
    r.plugged ≡ plug_after queue e.op q.plugged)

-- a queue stays, with its worker; it is started by a start of it, stopped by a stop of it that is done, and else as it was
abbrev pub StartedStays : State → WorkHistory → Type 0
StartedStays = AtEach (λ before e later. (queue : ℕ) (q : Queue) → slice_get before.queues queue ≡ Some q →
    (r : Queue) × (slice_get later.queues queue ≡ Some r) × (r.worker ≡ q.worker)
    × (r.started ≡ started_after queue e.op e.reply q.started))

-- a start tells whether the queue was started already, and an unplug whether it was plugged
abbrev pub StartTells : State → WorkHistory → Type 0
StartTells = AtEach (λ before e later. (queue : ℕ) (q : Queue) → slice_get before.queues queue ≡ Some q →
    (e.op ≡ Start queue → e.reply ≡ (if q.started then replies.Already else Done))
    × (e.op ≡ Unplug queue → e.reply ≡ (if q.plugged then Done else replies.Already)))

-- a stop tells that the queue isn't started; of one that is, it is done where the queue is plugged and rests, else busy
abbrev pub StopTells : State → WorkHistory → Type 0
StopTells = AtEach (λ before e later. (queue : ℕ) (q : Queue) → slice_get before.queues queue ≡ Some q →
    e.op ≡ Stop queue →
    e.reply ≡ (if not q.started then replies.Already else
    if q.plugged && is_empty_and_idle before.admissions queue then Done else replies.Busy))

-- a queue that isn't started is empty and idle
abbrev pub StoppedRests : State → WorkHistory → Type 0
StoppedRests start h = (queue : ℕ) (q : Queue) → queue_after start h queue ≡ Some q → q.started ≡ false →
    rests_after start h queue ≡ true

-- a drain, a plug, a start and a stop hold
pub record DrainsHold (start : State) (h : WorkHistory) : Type 0 where
  pub own : DrainAdmitsItsOwn start h
  pub until : DrainsUntilItRests start h
  pub stays : DrainingStays start h
  pub ends : DrainEndsAtRest start h
  pub done : DrainDoneAfterItsEnd start h
  pub told : DrainTells start h
  pub plugged : PluggedAdmitsNone start h
  pub rests : PluggedRests start h
  pub plugs : PluggedAsAsked start h
  pub started : StartedStays start h
  pub starts : StartTells start h
  pub stops : StopTells start h
  pub stopped : StoppedRests start h

-- Delays.

-- a live arm's deadline is still ahead
abbrev pub LiveAhead : State → WorkHistory → Type 0
LiveAhead start h = (place : ℕ) (a : Arm) → arm_after start h place ≡ Some a → a.fate ≡ Live → time_after start h < a.deadline

-- at an announce a live arm expires where the time reaches its deadline, and else stays
abbrev pub ExpiresWhenDue : State → WorkHistory → Type 0
ExpiresWhenDue = AtEach (λ before e later. (ticks place : ℕ) (a : Arm) → e.op ≡ Announce ticks →
    slice_get before.arms place ≡ Some a → a.fate ≡ Live →
    slice_get later.arms place ≡ Some (if nat_le a.deadline later.time then record a { fate = Expired } else a))

-- at any other entry it is disarmed where its item's delay is given up, and else stays
abbrev pub DisarmedWhenGivenUp : State → WorkHistory → Type 0
DisarmedWhenGivenUp = AtEach (λ before e later. (place : ℕ) (a : Arm) → announces e.op ≡ false →
    slice_get before.arms place ≡ Some a → a.fate ≡ Live →
    slice_get later.arms place ≡ Some (if disarms a.item e.op then record a { fate = Disarmed } else a))

-- an arm that has expired or was disarmed stays so
abbrev pub FateStays : State → WorkHistory → Type 0
FateStays start h = (front rest : WorkHistory) (place : ℕ) (a : Arm) → h ≡ front ++ rest →
    arm_after start front place ≡ Some a →
    is_live a.fate ≡ false → arm_after start h place ≡ Some a

-- an item has at most one live arm
abbrev pub OneLiveArm : State → WorkHistory → Type 0
OneLiveArm start h = (place other : ℕ) (a b : Arm) → arm_after start h place ≡ Some a → arm_after start h other ≡ Some b →
    a.item ≡ b.item → a.fate ≡ Live → b.fate ≡ Live → place ≡ other

-- an announce tells the items of just the arms that expire at it, by deadline and, at one deadline, in the order of arming
abbrev pub ExpireInOrder : State → WorkHistory → Type 0
ExpireInOrder = AtEach (λ before e later. (ticks time : ℕ) (told : List Expiry) → e.op ≡ Announce ticks →
    e.reply ≡ Now time told →
    (time ≡ later.time) × AreToldInOrder before time told)

-- of two items that an announce admits, the one told earlier has the lower admission number
abbrev pub AdmittedInOrder : State → WorkHistory → Type 0
AdmittedInOrder = AtEach (λ before e later. (ticks time number next first second : ℕ) (told : List Expiry) (x y : Expiry) →
    e.op ≡ Announce ticks → e.reply ≡ Now time told → number < next →
    slice_get told number ≡ Some x → slice_get told next ≡ Some y →
    told_number x.submitted ≡ Some first → told_number y.submitted ≡ Some second → first < second)

-- an arm is made just where the answer says so: of the item, to the queue and for the tick that were asked for, and live
abbrev pub ArmedAsAsked : State → WorkHistory → Type 0
ArmedAsAsked = AtEach (λ before e later.
    drop (length before.arms) later.arms ≡ (if is_armed e.reply then asked_arm before.time e.op else []))

-- a schedule of an item that is delayed, waits or is being cancelled is answered 0 and changes nothing; else it delays the
-- item just where there is a delay, and so does each reschedule
abbrev pub ScheduleTells : State → WorkHistory → Type 0
ScheduleTells start h = (front rest : WorkHistory) (e : WorkEntry) (item queue delay : ℕ) → h ≡ front ++ e ∷ rest →
    (e.op ≡ Schedule item queue delay → IsPending start front item → (e.reply ≡ Sub submitteds.Already)
    × ((after start (front ++ e ∷ [])).admissions ≡ (after start front).admissions)
    × ((after start (front ++ e ∷ [])).arms ≡ (after start front).arms))
    × (e.op ≡ Schedule item queue delay → (IsPending start front item → ⊥) →
    (e.reply ≡ Sub submitteds.Already → ⊥) × (is_armed e.reply ≡ not (delay == 0)))
    × (e.op ≡ Reschedule item queue delay → is_armed e.reply ≡ not (delay == 0))

-- what remains of a delay is told: the live arm's deadline less the time, and 0 where the item has none
abbrev pub RemainingTells : State → WorkHistory → Type 0
RemainingTells = AtEach (λ before e later. (item : ℕ) → e.op ≡ Remaining item →
    ((place : ℕ) (a : Arm) → slice_get before.arms place ≡ Some a → a.item ≡ item → a.fate ≡ Live →
    e.reply ≡ Number (a.deadline - before.time))
    × (((place : ℕ) (a : Arm) → slice_get before.arms place ≡ Some a → a.item ≡ item → a.fate ≡ Live → ⊥) →
    e.reply ≡ Number 0))

-- the time grows by the ticks of an announce, and nowhere else
abbrev pub OnlyAnnouncesPassTime : State → WorkHistory → Type 0
OnlyAnnouncesPassTime = AtEach (λ before e later. later.time ≡ before.time + ticks_of e.op)

-- a delay ends once, when it is over or is given up
pub record DelaysHold (start : State) (h : WorkHistory) : Type 0 where
  pub armed : ArmedAsAsked start h
  pub ahead : LiveAhead start h
  pub due : ExpiresWhenDue start h
  pub disarmed : DisarmedWhenGivenUp start h
  pub once : FateStays start h
  pub one : OneLiveArm start h
  pub order : ExpireInOrder start h
  pub numbers : AdmittedInOrder start h
  pub scheduled : ScheduleTells start h
  pub remaining : RemainingTells start h
  pub passes : OnlyAnnouncesPassTime start h

-- What may go on.

-- the worker may begin where something of its queue waits and nothing of it runs
abbrev pub MayBegin : State → WorkHistory → Type 0
MayBegin start h = (who : Who) (queue number : ℕ) (q : Queue) (a : Admission) → queue_after start h queue ≡ Some q →
    q.worker ≡ who.number →
    admission_after start h number ≡ Some a → a.queue ≡ queue → a.life ≡ Waiting →
    ((other : ℕ) (b : Admission) → admission_after start h other ≡ Some b → b.queue ≡ queue → b.life ≡ Running → ⊥) →
    MayGoOn start h who (Begin queue)

-- and may end what its queue runs
abbrev pub MayEnd : State → WorkHistory → Type 0
MayEnd start h = (who : Who) (queue number : ℕ) (q : Queue) (a : Admission) → queue_after start h queue ≡ Some q →
    q.worker ≡ who.number →
    admission_after start h number ≡ Some a → a.queue ≡ queue → a.life ≡ Running → MayGoOn start h who (End queue)

-- what needn't be waited for may be done at any time
abbrev pub MayAlways : State → WorkHistory → Type 0
MayAlways start h = (who : Who) (op : WorkOp) → is_awaited op ≡ false → MayGoOn start h who op

-- a start that had to wait and isn't told to be done yet may be told so once what it waits for has come
abbrev pub MayBeDone : State → WorkHistory → Type 0
MayBeDone start h = (before since : WorkHistory) (first : WorkEntry) (who : Who) → h ≡ before ++ first ∷ since →
    has_to_wait first.reply ≡ true → who.number ≡ first.who.number →
    list_any (λ e. is_done_of (length before) e.op) since ≡ false →
    HasCome start before first since first.op → MayGoOn start h who (done_for first.op (length before))

-- only the player who started is told to be done, of a start that had to wait, and once
abbrev pub DoneHasItsStart : State → WorkHistory → Type 0
DoneHasItsStart start h = (front rest : WorkHistory) (e : WorkEntry) (place : ℕ) → h ≡ front ++ e ∷ rest →
    is_done_of place e.op ≡ true → HasStart front e.who e.op place

-- each operation is answered in its form
abbrev pub AnswersFit : State → WorkHistory → Type 0
AnswersFit = AtEach (λ before e later. fits e.op e.reply ≡ true)

-- who may go on, and what is answered
pub record GoesOn (start : State) (h : WorkHistory) : Type 0 where
  pub begin : MayBegin start h
  pub end : MayEnd start h
  pub always : MayAlways start h
  pub done : MayBeDone start h
  pub first : DoneHasItsStart start h
  pub fits : AnswersFit start h

-- The flag word.

-- the test is true just where the fact holds
abbrev pub Tells : Bool → Type 0 → Type 0
Tells test Fact = (test ≡ true → Fact) × (Fact → test ≡ true)

-- what a flag adds to the word where it is set
abbrev pub flag : ℕ → Bool → ℕ
flag weight set = if set then weight else 0

-- what the flag word of an item says: 1 where the item runs, 2 where it is being cancelled, 4 where one of it waits, 8 where it
-- has a live arm, 16 where it is being flushed
pub record FlagsTell (start : State) (h : WorkHistory) (item flags : ℕ) : Type 0 where
  pub cancelled : Bool
  pub while_cancelled : Tells cancelled (IsBeingCancelled start h item)
  pub flushed : Bool
  pub while_flushed : Tells flushed (IsBeingFlushed start h item)
  pub word : flags ≡ flag 1 (is_some (running_after start h item)) + flag 2 cancelled
      + flag 4 (is_some (waiting (after start h).admissions item))
      + flag 8 (is_some (armed (after start h).arms item)) + flag 16 flushed

-- the flag word of each item says so after each history
abbrev pub FlagsShow : State → WorkHistory → Type 0
FlagsShow start h = (item : ℕ) → FlagsTell start h item (flags_of (after start h) item)

-- all of it
pub record KeepsLaws (start : State) (h : WorkHistory) : Type 0 where
  pub once : RunsOnce start h
  pub order : BeginsInOrder start h
  pub alone : NeverOverlaps start h
  pub submissions : SubmissionsHold start h
  pub cancels : CancelsHold start h
  pub flushes : FlushesHold start h
  pub drains : DrainsHold start h
  pub delays : DelaysHold start h
  pub goes_on : GoesOn start h
  pub flags : FlagsShow start h
