-- Inner: no contract of a top call is made of this file.
use Rattle.std.specs.Prelude.{◌≡◌, ℕ, ◌⊎◌, ◌+◌, ◌<◌, ◌≤◌, Bool, true, false, not, ◌&&◌, Option, Some, None, option_to_list, List, length, map, filter, count_by, slice_get, slice_index_or, All}
use Rattle.zk_model_work.specs.declared.ops.WorkOp.{WorkOp}
use Rattle.zk_model_work.specs.declared.ops.WorkOp.TheVariants.{CancelDone, FlushDone, DrainDone, Announce, End}
use Rattle.zk_model_work.specs.declared.parts.Life.{Life}
use Rattle.zk_model_work.specs.declared.parts.Life.TheVariants.{Running, Ended}
use Rattle.zk_model_work.specs.declared.parts.Admission.{Admission}
use Rattle.zk_model_work.specs.declared.parts.Arm.{Arm}
use Rattle.zk_model_work.specs.declared.parts.Awaited.{Awaited}
use Rattle.zk_model_work.specs.declared.parts.Awaited.TheVariants.{Cancel, Flush, Drain}
use Rattle.zk_model_work.specs.declared.parts.Wait.{Wait}
use Rattle.zk_model_work.specs.declared.parts.Queue.{Queue}
use Rattle.zk_model_work.specs.Questions.{is_waiting, is_running, is_open, is_live, waits_as, waits_for, runs_on, last_queue, is_cancelling, passes_at}
use Rattle.zk_model_work.specs.Lists.{first}
use Rattle.zk_model_work.specs.State.{State, IsCounted, IsTimed}
use Rattle.zk_base.specs.Order.{by_key}
use Rattle.zk_time.specs.declared.timeout.Timeout.{Timeout}
use Rattle.zk_time.specs.Timeouts.{Timeouts, IsOrdered}
use Rattle.zk_queue.specs.declared.ticket.Ticket.{Ticket}
use Rattle.zk_queue.specs.Open.{Open, line, run, waiting, running, marks_of, IsAbove}
use Rattle.zk_work.specs.Tickets.{tickets}

-- what the engine keeps: the ticks, the entries and the admissions so far, how many runs are open,
-- the queue of each item's last admission, the open admissions, the items that are armed,
-- the waits that aren't answered, and the queues
pub record EngineState : Type 0 where
  pub time : ℕ
  pub entries : ℕ
  pub made : ℕ
  pub running : ℕ
  pub last : List (Option ℕ)
  pub active : Open
  pub timeouts : Timeouts
  pub waits : List Wait
  pub queues : List Queue

-- what a contract sees of the engine: what it keeps, how many changes it takes without memory,
-- and the items whose busy flags the last entry may have changed
pub record EngineView : Type 0 where
  pub state : EngineState
  pub room : ℕ
  pub touched : List ℕ

-- the queue of the item's last admission
abbrev pub last_of : EngineState → ℕ → Option ℕ
last_of k item = slice_index_or k.last item None

-- the admission of this number was made, and waits no longer
abbrev pub is_past_waiting : List Admission → ℕ → Bool
is_past_waiting admissions number = passes_at (λ a. not (is_waiting a.life)) admissions number

-- what holds of the admissions and marks of every state that a history leads to
pub record IsSound (items : ℕ) (admissions : List Admission) (marks : List ℕ) : Type 0 where
  -- there are so many items
  pub known : (number : ℕ) (a : Admission) → slice_get admissions number ≡ Some a → a.item < items
  -- an item waits at most once
  pub once : (item : ℕ) → count_by (waits_as item) admissions ≤ 1
  -- an admission that waits or runs is to the queue of its item's last one
  pub home : (number : ℕ) (a : Admission) → slice_get admissions number ≡ Some a → is_open a.life ≡ true →
      last_queue admissions a.item ≡ Some a.queue
  -- what a cancel has marked doesn't wait
  pub marked : All (λ number. is_past_waiting admissions number ≡ true) marks

-- the waits that aren't answered
abbrev pub unanswered : List Wait → List Wait
unanswered waits = filter (λ w. not w.answered) waits

-- its run has begun
abbrev pub is_begun : Life → Bool
is_begun Running = true
is_begun Ended = true
is_begun _ = false

-- what is awaited is there: the run that a sync cancel found has begun;
-- the admission of a flush was made, and is over where the flush is answered
abbrev pub is_there : List Admission → Awaited → Bool → Bool
is_there admissions (Cancel number) answered = passes_at (λ a. is_begun a.life) admissions number
is_there admissions (Flush number) answered = passes_at (λ a. not (answered && is_open a.life)) admissions number
is_there admissions (Drain queue count) answered = true

-- the open admissions have a place for each item and each queue
pub record IsShaped (o : Open) : Type 0 where
  pub marks : length o.marks ≡ o.items
  pub lines : length o.lines ≡ o.queues
  pub runs : length o.runs ≡ o.queues

-- a live arm as it is kept
abbrev pub timeout_of : Arm → Timeout
timeout_of a = record { item = a.item; queue = a.queue; deadline = a.deadline }

-- the live arms, in the order of arming
abbrev pub live_of : List Arm → List Timeout
live_of arms = map timeout_of (filter (λ a. is_live a.fate) arms)

-- the live arms, in the order in which they expire
abbrev pub timeouts_of : List Arm → List Timeout
timeouts_of arms = by_key (λ t. t.deadline) (live_of arms)

-- the item waits or runs by the admission of this number
abbrev pub IsBy : Open → ℕ → ℕ → Type 0
IsBy o item number = (waiting o item ≡ Some number) ⊎ (running o item ≡ Some number)

-- the open admissions were made, and each is of one item, which there is
pub record AreNumbered (next : ℕ) (o : Open) : Type 0 where
  pub below : (item number : ℕ) → IsBy o item number → number < next
  pub apart : (i j number : ℕ) → IsBy o i number → IsBy o j number → i ≡ j
  pub within : (queue : ℕ) (t : Ticket) → first (line o queue) ≡ Some t → t.item < o.items
  -- an item waits once, and runs once
  pub once : (queue : ℕ) → All (λ t. waiting o t.item ≡ Some t.number) (line o queue)
  pub one : (queue : ℕ) (t : Ticket) → run o queue ≡ Some t → running o t.item ≡ Some t.number

-- what holds of all that the engine keeps
pub record IsWhole (k : EngineState) : Type 0 where
  pub counted : IsCounted k.entries k.queues
  pub timed : IsTimed k.time k.entries
  -- each entry makes an admission or arms an item at most, and an item that is armed may still become an admission
  pub fewer : k.made + length k.timeouts.live ≤ k.entries
  pub fewest : k.running ≤ k.made
  pub items : length k.last ≡ k.active.items
  pub armed : k.timeouts.items ≡ k.active.items
  pub ordered : IsOrdered k.timeouts
  pub queues : length k.queues ≡ k.active.queues
  pub shaped : IsShaped k.active
  -- the next number is above those of all that wait
  pub above : IsAbove k.made k.active
  pub busy : (queue : ℕ) (t : Ticket) → run k.active queue ≡ Some t → 0 < k.running
  pub known : (queue : ℕ) (t : Ticket) → run k.active queue ≡ Some t → t.item < k.active.items
  pub numbered : AreNumbered k.made k.active

-- what is kept of the admissions is what answers need of all that were made
pub record StandsForAdmissions (next open_runs : ℕ) (homes : List (Option ℕ)) (o : Open)
    (known : ℕ) (admissions : List Admission) (found : List ℕ) : Type 0 where
  pub items : o.items ≡ known
  pub made : next ≡ length admissions
  pub running : open_runs ≡ count_by (λ a. is_running a.life) admissions
  pub last : (item : ℕ) → slice_index_or homes item None ≡ last_queue admissions item
  -- each queue has the tickets of what waits for it, and of what it runs
  pub lines : (queue : ℕ) → line o queue ≡ tickets (waits_for queue) admissions
  pub runs : (queue : ℕ) → option_to_list (run o queue) ≡ tickets (runs_on queue) admissions
  -- an item is marked where it is being cancelled
  pub marks : (item : ℕ) →
      marks_of o item ≡ record { cancelling = is_cancelling admissions found item; delayed = false; flushing = false }
  pub sound : IsSound known admissions found

-- the waits that are kept are those that aren't answered; and what each wait is for is there
pub record StandsForWaits (kept : List Wait) (admissions : List Admission) (waits : List Wait) : Type 0 where
  pub left : kept ≡ unanswered waits
  pub there : All (λ w. is_there admissions w.awaited w.answered ≡ true) waits

-- the engine stands for a state: what it keeps is what answers need of the state's lists
pub record StandsFor (k : EngineState) (s : State) : Type 0 where
  pub whole : IsWhole k
  pub time : k.time ≡ s.time
  pub entries : k.entries ≡ s.entries
  pub queues : k.queues ≡ s.queues
  -- the live arms
  pub arms : k.timeouts.live ≡ timeouts_of s.arms
  pub waits : StandsForWaits k.waits s.admissions s.waits
  pub admissions : StandsForAdmissions k.made k.running k.last k.active s.items s.admissions s.marks

-- the entries still to come that end something: one for each run, and one for each wait that isn't answered
abbrev pub work_owed : State → ℕ
work_owed s = count_by (λ a. is_running a.life) s.admissions + count_by (λ w. not w.answered) s.waits

-- the end of a run and of a wait are such entries
abbrev pub work_closes : WorkOp → Bool
work_closes (CancelDone place) = true
work_closes (FlushDone place) = true
work_closes (DrainDone place) = true
work_closes (End queue) = true
work_closes _ = false

-- an announce may take memory at any room: for the list of what has expired
abbrev pub work_grows : WorkOp → Bool
work_grows (Announce ticks) = true
work_grows _ = false
