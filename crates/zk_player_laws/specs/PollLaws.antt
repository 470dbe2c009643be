use Rattle.std.specs.Prelude.{◌≡◌, ℕ, ◌+◌, ◌<◌, ◌≤◌, ◌⊎◌, Bool, true, false, not, ◌&&◌, ◌||◌, ◌==◌, count_by, Option, Some, None, List, [], ◌∷◌, ◌++◌, length, slice_get, All}
use Rattle.std.specs.List.{AllZip, Contains, filter, filter_map, list_any, position}
use Rattle.zk_base.specs.declared.errors.Errno.TheVariants.{Again}
use Rattle.zk_line.specs.declared.events.Event.{Event}
use Rattle.zk_line.specs.declared.events.Event.TheVariants.{Ignore, Sem, Msgq, Sig}
use Rattle.zk_line.specs.declared.events.TheConstants.{MOST_EVENTS}
use Rattle.zk_model_wait.specs.declared.clock.ClockOp.TheVariants as clock_ops
use Rattle.zk_model_wait.specs.declared.clock.ClockReply.TheVariants as clock_replies
use Rattle.zk_model_wait.specs.declared.msgq.MsgqOp.{MsgqOp}
use Rattle.zk_model_wait.specs.declared.msgq.MsgqOp.TheVariants as msgq_ops
use Rattle.zk_model_wait.specs.declared.msgq.MsgqReply.{MsgqReply}
use Rattle.zk_model_wait.specs.declared.msgq.MsgqReply.TheVariants as msgq_replies
use Rattle.zk_model_wait.specs.declared.sem.SemOp.{SemOp}
use Rattle.zk_model_wait.specs.declared.sem.SemOp.TheVariants as sem_ops
use Rattle.zk_model_wait.specs.declared.sem.SemReply.{SemReply}
use Rattle.zk_model_wait.specs.declared.sem.SemReply.TheVariants as sem_replies
use Rattle.zk_words.specs.declared.timeout.Timeout.{Timeout}
use Rattle.zk_words.specs.declared.timeout.Timeout.TheVariants.{Ticks}
use Rattle.zk_words.specs.declared.word.Word.{Word}
use Rattle.zk_worker.specs.declared.answers.Answer.{Answer}
use Rattle.zk_worker.specs.declared.answers.Answer.TheVariants as answers
use Rattle.zk_worker.specs.declared.frames.Stage.{Stage}
use Rattle.zk_worker.specs.declared.frames.Stage.TheVariants.{Start}
use Rattle.zk_worker.specs.declared.frames.Progress.{Progress}
use Rattle.zk_worker.specs.declared.frames.Progress.TheVariants.{Goes, Answers}
use Rattle.zk_worker.specs.declared.steps.Spot.{Spot}
use Rattle.zk_worker.specs.declared.steps.Spot.TheVariants as spots
use Rattle.zk_worker.specs.declared.steps.Step.{Step}
use Rattle.zk_worker.specs.declared.steps.Step.TheVariants as steps
use Rattle.zk_worker.specs.declared.steps.StepReply.{StepReply}
use Rattle.zk_worker.specs.declared.steps.StepReply.TheVariants as step_replies
use Rattle.zk_worker.specs.Follows.{StepMade}
use Rattle.zk_worker.specs.Polls.{waits, poll_attempts, poll_progress}
use Rattle.zk_worker.specs.Refs.{ref_object}

-- at this stage of a poll the step is one of its next attempts, and its reply leads to this
pub record Leads (word : Word) (timeout : Timeout) (events : List Event) (stage : Stage)
    (made : StepMade) (progress : Progress) : Type 0 where
  pub index : ℕ
  pub ahead : slice_get (poll_attempts timeout events stage) index ≡ Some made.0
  pub comes : poll_progress word timeout events stage made.0 made.1 ≡ progress

-- these steps with their replies lead a poll from one stage to another
abbrev pub LeadsOn : Word → Timeout → List Event → Stage → List StepMade → Stage → Type 0
LeadsOn word timeout events stage [] end = stage ≡ end
LeadsOn word timeout events stage (made ∷ more) end =
    (next : Stage) × Leads word timeout events stage made (Goes next)
    × LeadsOn word timeout events next more end

-- the whole play of a poll that has its answer: its steps with their replies, from its start
pub record IsAnswered (word : Word) (timeout : Timeout) (events : List Event) (play : List StepMade)
    (answer : Answer) : Type 0 where
  pub front : List StepMade
  pub last : StepMade
  pub stage : Stage
  pub whole : play ≡ front ++ last ∷ []
  pub led : LeadsOn word timeout events Start front stage
  pub answered : Leads word timeout events stage last (Answers word answer)

-- a step of a play: it, and what was made before it
pub record StandsAt (play before : List StepMade) (made : StepMade) : Type 0 where
  pub rest : List StepMade
  pub whole : play ≡ before ++ made ∷ rest

-- what a semaphore can tell a poll
abbrev pub sem_may_tell : SemOp → SemReply → Bool
sem_may_tell (sem_ops.PollArm waits) sem_replies.Ready = true
sem_may_tell (sem_ops.PollArm waits) sem_replies.NotReady = true
sem_may_tell (sem_ops.PollArm waits) sem_replies.Armed = waits
sem_may_tell (sem_ops.PollEnd place) sem_replies.Noted = true
sem_may_tell (sem_ops.PollQuit place) sem_replies.Noted = true
sem_may_tell (sem_ops.PollQuit place) sem_replies.Plain = true
sem_may_tell op reply = false

-- what a message queue can tell a poll
abbrev pub msgq_may_tell : MsgqOp → MsgqReply → Bool
msgq_may_tell (msgq_ops.PollArm waits) msgq_replies.Ready = true
msgq_may_tell (msgq_ops.PollArm waits) msgq_replies.NotReady = true
msgq_may_tell (msgq_ops.PollArm waits) msgq_replies.Armed = waits
msgq_may_tell (msgq_ops.PollEnd place) msgq_replies.Noted = true
msgq_may_tell (msgq_ops.PollQuit place) msgq_replies.Noted = true
msgq_may_tell (msgq_ops.PollQuit place) msgq_replies.Plain = true
msgq_may_tell op reply = false

-- what a service can reply to a step of a poll
abbrev pub may_reply : StepMade → Bool
may_reply (steps.Clock (clock_ops.Alarm ticks), step_replies.Clock (clock_replies.At moment) place) =
    true
may_reply (steps.Clock (clock_ops.AlarmEnd moment), step_replies.Clock clock_replies.Due place) =
    true
may_reply (steps.Sem object op, step_replies.Sem at reply place) = sem_may_tell op reply
may_reply (steps.Msgq object op, step_replies.Msgq at reply place) = msgq_may_tell op reply
may_reply (steps.LookSignal object must, step_replies.Seen seen) = true
may_reply made = false

-- where a step has registered its caller
abbrev pub registered_at : StepMade → Option Spot
registered_at (steps.Sem object (sem_ops.PollArm waits), step_replies.Sem at sem_replies.Armed place) =
    Some (spots.Sem object place)
registered_at (steps.Msgq object (msgq_ops.PollArm waits), step_replies.Msgq at msgq_replies.Armed place) =
    Some (spots.Msgq object place)
registered_at made = None

-- the registration that a step ends or gives up
abbrev pub ended_at : StepMade → Option Spot
ended_at (steps.Sem object (sem_ops.PollEnd place), reply) = Some (spots.Sem object place)
ended_at (steps.Sem object (sem_ops.PollQuit place), reply) = Some (spots.Sem object place)
ended_at (steps.Msgq object (msgq_ops.PollEnd place), reply) = Some (spots.Msgq object place)
ended_at (steps.Msgq object (msgq_ops.PollQuit place), reply) = Some (spots.Msgq object place)
ended_at made = None

-- the replies are such as services give: each is one that its step can have, and no two steps have registered at one place
-- of an object
pub record AreServed (play : List StepMade) : Type 0 where
  pub each : All (λ made. may_reply made ≡ true) play
  pub apart : (before other : List StepMade) (a b : StepMade) (spot : Spot) →
      StandsAt play before a → StandsAt play other b →
      registered_at a ≡ Some spot → registered_at b ≡ Some spot → before ≡ other

-- a step that asks for an event: it registers, or asks whether it is ready, or looks at a signal and takes what it finds
abbrev pub is_ask : StepMade → Bool
is_ask (steps.Sem object (sem_ops.PollArm waits), reply) = true
is_ask (steps.Msgq object (msgq_ops.PollArm waits), reply) = true
is_ask (steps.LookSignal object false, reply) = true
is_ask made = false

-- a step that asks at a semaphore or a message queue
abbrev pub is_arm : StepMade → Bool
is_arm (steps.Sem object (sem_ops.PollArm waits), reply) = true
is_arm (steps.Msgq object (msgq_ops.PollArm waits), reply) = true
is_arm made = false

-- a step that asks to be registered
abbrev pub asks_to_wait : StepMade → Bool
asks_to_wait (steps.Sem object (sem_ops.PollArm waits), reply) = waits
asks_to_wait (steps.Msgq object (msgq_ops.PollArm waits), reply) = waits
asks_to_wait made = false

-- a step that waits: for a note, for a signal to be raised, for the end of the alarm
abbrev pub is_wait : StepMade → Bool
is_wait (steps.Sem object (sem_ops.PollEnd place), reply) = true
is_wait (steps.Msgq object (msgq_ops.PollEnd place), reply) = true
is_wait (steps.LookSignal object must, reply) = must
is_wait (steps.Clock (clock_ops.AlarmEnd moment), reply) = true
is_wait made = false

-- a step that gives a registration up
abbrev pub is_quit : StepMade → Bool
is_quit (steps.Sem object (sem_ops.PollQuit place), reply) = true
is_quit (steps.Msgq object (msgq_ops.PollQuit place), reply) = true
is_quit made = false

-- a step that sets an alarm
abbrev pub sets_alarm : StepMade → Bool
sets_alarm (steps.Clock (clock_ops.Alarm ticks), reply) = true
sets_alarm made = false

-- the end of the alarm
abbrev pub is_alarm_end : StepMade → Bool
is_alarm_end (steps.Clock (clock_ops.AlarmEnd moment), reply) = true
is_alarm_end made = false

-- a step of the alarm: it sets it, or is its end
abbrev pub is_of_alarm : StepMade → Bool
is_of_alarm made = sets_alarm made || is_alarm_end made

-- a step tells that an event is ready: it was when it was asked, or its caller was noted, or a look found the signal raised
abbrev pub tells_ready : StepMade → Bool
tells_ready (steps.Sem object (sem_ops.PollArm waits), step_replies.Sem at sem_replies.Ready place) = true
tells_ready (steps.Sem object (sem_ops.PollEnd ended), step_replies.Sem at sem_replies.Noted place) = true
tells_ready (steps.Sem object (sem_ops.PollQuit ended), step_replies.Sem at sem_replies.Noted place) = true
tells_ready (steps.Msgq object (msgq_ops.PollArm waits), step_replies.Msgq at msgq_replies.Ready place) = true
tells_ready (steps.Msgq object (msgq_ops.PollEnd ended), step_replies.Msgq at msgq_replies.Noted place) = true
tells_ready (steps.Msgq object (msgq_ops.PollQuit ended), step_replies.Msgq at msgq_replies.Noted place) = true
tells_ready (steps.LookSignal object must, step_replies.Seen seen) = seen.raised
tells_ready made = false

-- the event is of the object that a step is made at
abbrev pub names : Event → StepMade → Bool
names (Sem sem) (steps.Sem object op, reply) = object == ref_object sem
names (Msgq queue) (steps.Msgq object op, reply) = object == ref_object queue
names (Sig signal) (steps.LookSignal object must, reply) = object == ref_object signal
names event made = false

-- the event is of this signal
abbrev pub is_of_signal : ℕ → Event → Bool
is_of_signal object (Sig signal) = object == ref_object signal
is_of_signal object event = false

-- the events that aren't ignored, in order, each with its position, counted from n
abbrev pub events_from : ℕ → List Event → List (ℕ × Event)
events_from n [] = []
events_from n (Ignore ∷ events) = events_from (n + 1) events
events_from n (event ∷ events) = (n, event) ∷ events_from (n + 1) events

-- the steps of a play that ask, in order
abbrev pub asks : List StepMade → List StepMade
asks = filter is_ask

-- all that a play has registered
abbrev pub registrations : List StepMade → List Spot
registrations = filter_map registered_at

-- all that a play has ended or given up
abbrev pub endings : List StepMade → List Spot
endings = filter_map ended_at

-- behind these steps the event at this position is asked next: as many were asked as there are before it that aren't ignored
abbrev pub IsAskFor : List Event → List StepMade → ℕ → Type 0
IsAskFor events before k =
    (event : Event) × (slice_get (events_from 0 events) (length (asks before)) ≡ Some (k, event))

-- the ask for the event at this position has registered its caller there
pub record IsRegistered (events : List Event) (play : List StepMade) (spot : Spot) (k : ℕ) : Type 0 where
  pub before : List StepMade
  pub ask : StepMade
  pub stands : StandsAt play before ask
  pub at : registered_at ask ≡ Some spot
  pub for : IsAskFor events before k

-- a step is for the event at a position: an ask in its turn, the end of what that event's ask has registered,
-- a look that waits for a signal for the first event of that signal
abbrev pub IsFor : List Event → List StepMade → Step → ℕ → Type 0
IsFor events before (steps.Sem object (sem_ops.PollArm waits)) k = IsAskFor events before k
IsFor events before (steps.Sem object (sem_ops.PollEnd place)) k = IsRegistered events before (spots.Sem object place) k
IsFor events before (steps.Sem object (sem_ops.PollQuit place)) k = IsRegistered events before (spots.Sem object place) k
IsFor events before (steps.Msgq object (msgq_ops.PollArm waits)) k = IsAskFor events before k
IsFor events before (steps.Msgq object (msgq_ops.PollEnd place)) k = IsRegistered events before (spots.Msgq object place) k
IsFor events before (steps.Msgq object (msgq_ops.PollQuit place)) k = IsRegistered events before (spots.Msgq object place) k
IsFor events before (steps.LookSignal object false) k = IsAskFor events before k
IsFor events before (steps.LookSignal object true) k = position (is_of_signal object) events ≡ Some k
IsFor events before step k = ⊥

-- a step of the play tells that the event at this position is ready
pub record PollIsTold (events : List Event) (play : List StepMade) (k : ℕ) : Type 0 where
  pub before : List StepMade
  pub made : StepMade
  pub stands : StandsAt play before made
  pub tells : tells_ready made ≡ true
  pub for : IsFor events before made.0 k

-- positions that rise, the first of them at or above n
abbrev pub AreRising : ℕ → List ℕ → Type 0
AreRising n [] = Unit {0}
AreRising n (k ∷ more) = (n ≤ k) × AreRising (k + 1) more

-- the positions are just those of the events that a step told to be ready
pub record NamesWhatIsTold (events : List Event) (play : List StepMade) (positions : List ℕ) : Type 0 where
  pub rising : AreRising 0 positions
  pub named : (k : ℕ) → Contains positions k → PollIsTold events play k
  pub told : (k : ℕ) → PollIsTold events play k → Contains positions k

-- a poll that was told of something names it all, and nothing else; one that was told of nothing answers again
pub record AnswersWhatIsTold (events : List Event) (play : List StepMade) (answer : Answer) : Type 0 where
  pub told : list_any tells_ready play ≡ true →
      (positions : List ℕ) × (answer ≡ answers.Ready positions) × NamesWhatIsTold events play positions
  pub none : list_any tells_ready play ≡ false → answer ≡ answers.Refused Again

-- each event that isn't ignored was asked, once, in order
abbrev pub AsksEachOnce : List Event → List StepMade → Type 0
AsksEachOnce events play =
    AllZip (λ asked made. names asked.1 made ≡ true) (events_from 0 events) (asks play)

-- whatever is counted, there are as many registrations as ends of them: each was ended or given up, once, and nothing else was
abbrev pub NothingStaysRegistered : List StepMade → Type 0
NothingStaysRegistered play =
    (test : Spot → Bool) → count_by test (registrations play) ≡ count_by test (endings play)

-- a step is for just one event, which is of its object
pub record IsForOne (events : List Event) (before : List StepMade) (made : StepMade) : Type 0 where
  pub place : ℕ
  pub event : Event
  pub for : IsFor events before made.0 place
  pub only : (k : ℕ) → IsFor events before made.0 k → k ≡ place
  pub there : slice_get events place ≡ Some event
  pub named : names event made ≡ true

-- each step but one that sets an alarm or ends it is for just one event; so no other step of the clock comes
abbrev pub EachIsForOne : List Event → List StepMade → Type 0
EachIsForOne events play = (before : List StepMade) (made : StepMade) → StandsAt play before made →
    is_of_alarm made ≡ false → IsForOne events before made

-- the waiting is over: some event was told to be ready, or the alarm has ended
abbrev pub is_over : List StepMade → Bool
is_over play = list_any tells_ready play || list_any is_alarm_end play

-- a step comes in its time: an ask registers where the call waits and nothing was told to be ready yet; all else comes once
-- each event was asked; it waits until the waiting is over, and gives up only then
pub record IsInTime (timeout : Timeout) (events : List Event) (before : List StepMade) (made : StepMade) :
    Type 0 where
  pub arms : is_arm made ≡ true → asks_to_wait made ≡ (waits timeout && not (list_any tells_ready before))
  pub asked : is_ask made ≡ false → sets_alarm made ≡ false → length (asks before) ≡ length (events_from 0 events)
  pub waiting : is_wait made ≡ true → is_over before ≡ false
  pub quitting : is_quit made ≡ true → is_over before ≡ true

-- each step comes in its time
abbrev pub EachIsInTime : Timeout → List Event → List StepMade → Type 0
EachIsInTime timeout events play = (before : List StepMade) (made : StepMade) → StandsAt play before made →
    IsInTime timeout events before made

-- the first step has set an alarm, for this moment
pub record IsDue (play : List StepMade) (moment : ℕ) : Type 0 where
  pub ticks : ℕ
  pub place : ℕ
  pub stands : StandsAt play []
      (steps.Clock (clock_ops.Alarm ticks), step_replies.Clock (clock_replies.At moment) place)

-- a poll with ticks sets its alarm first, and no other one does; what it ends is that alarm
pub record IsAlarmed (timeout : Timeout) (before : List StepMade) (made : StepMade) : Type 0 where
  pub begins : (ticks : ℕ) → timeout ≡ Ticks ticks → before ≡ [] →
      made.0 ≡ steps.Clock (clock_ops.Alarm ticks)
  pub sets : (ticks : ℕ) → made.0 ≡ steps.Clock (clock_ops.Alarm ticks) →
      (before ≡ []) × (timeout ≡ Ticks ticks)
  pub ends : (moment : ℕ) → made.0 ≡ steps.Clock (clock_ops.AlarmEnd moment) → IsDue before moment

-- it keeps to its alarm at each step
abbrev pub KeepsItsAlarm : Timeout → List StepMade → Type 0
KeepsItsAlarm timeout play = (before : List StepMade) (made : StepMade) → StandsAt play before made →
    IsAlarmed timeout before made

-- a poll is done: all is asked, it waits no more, be it that it never does, and nothing stays registered
pub record IsDone (timeout : Timeout) (events : List Event) (play : List StepMade) : Type 0 where
  pub asked : length (asks play) ≡ length (events_from 0 events)
  pub over : (is_over play || not (waits timeout)) ≡ true
  pub ends : NothingStaysRegistered play

-- a poll with its answer keeps all of it
pub record KeepsPollLaws (timeout : Timeout) (events : List Event) (play : List StepMade)
    (answer : Answer) : Type 0 where
  pub names : AnswersWhatIsTold events play answer
  pub asks : AsksEachOnce events play
  pub done : IsDone timeout events play
  pub each : EachIsForOne events play
  pub timed : EachIsInTime timeout events play
  pub alarm : KeepsItsAlarm timeout play

-- it holds of each answered play of each poll of up to eight events, over any services
abbrev pub OfEachPoll : (Timeout → List Event → List StepMade → Answer → Type 0) → Type 0
OfEachPoll P = (word : Word) (timeout : Timeout) (events : List Event) → length events ≤ MOST_EVENTS →
    (play : List StepMade) (answer : Answer) → IsAnswered word timeout events play answer →
    AreServed play → P timeout events play answer

-- the step that waits for the note of a registration
abbrev pub end_of : Spot → Option Step
end_of (spots.Sem object place) = Some (steps.Sem object (sem_ops.PollEnd place))
end_of (spots.Msgq object place) = Some (steps.Msgq object (msgq_ops.PollEnd place))
end_of spot = None

-- the attempts that wait for the event at this position: of a signal its look that must find it raised; of another one whose ask
-- has registered the end of that registration; and else none
abbrev pub WaitsForEvent : List Event → List StepMade → ℕ → Event → List Step → Type 0
WaitsForEvent events play k (Sig signal) own = own ≡ steps.LookSignal (ref_object signal) true ∷ []
WaitsForEvent events play k event own =
    ((spot : Spot) × (step : Step) × IsRegistered events play spot k × (end_of spot ≡ Some step) × (own ≡ step ∷ []))
    ⊎ (((spot : Spot) → IsRegistered events play spot k → ⊥) × (own ≡ []))

-- the end of the alarm, where one was set, and else nothing
abbrev pub WaitsForAlarm : List StepMade → List Step → Type 0
WaitsForAlarm play own =
    ((moment : ℕ) × IsDue play moment × (own ≡ steps.Clock (clock_ops.AlarmEnd moment) ∷ []))
    ⊎ (((moment : ℕ) → IsDue play moment → ⊥) × (own ≡ []))

-- the attempts are those that wait for each of these events, one event after the other, then the alarm's, and nothing else
abbrev pub WaitsForEach : List Event → List StepMade → List (ℕ × Event) → List Step → Type 0
WaitsForEach events play [] attempts = WaitsForAlarm play attempts
WaitsForEach events play ((k, event) ∷ left) attempts =
    (own others : List Step) × (attempts ≡ own ++ others) × WaitsForEvent events play k event own
    × WaitsForEach events play left others

-- a poll that waits attempts just what waits for its events, in their order, and the end of its alarm last
abbrev pub WaitsForAll : List Event → List StepMade → List Step → Type 0
WaitsForAll events play attempts = WaitsForEach events play (events_from 0 events) attempts

-- an attempt that asks for an event
abbrev pub AsksFor : Event → Step → Type 0
AsksFor event step = (reply : StepReply) → (is_ask (step, reply) ≡ true) × (names event (step, reply) ≡ true)

-- the step that gives a registration up
abbrev pub quit_of : Spot → Option Step
quit_of (spots.Sem object place) = Some (steps.Sem object (sem_ops.PollQuit place))
quit_of (spots.Msgq object place) = Some (steps.Msgq object (msgq_ops.PollQuit place))
quit_of spot = None

-- the step gives up the first registration that stands: it isn't ended, and those of earlier events are
pub record GivesUpFirst (events : List Event) (play : List StepMade) (step : Step) : Type 0 where
  pub place : ℕ
  pub spot : Spot
  pub quits : quit_of spot ≡ Some step
  pub registered : IsRegistered events play spot place
  pub stands : (test : Spot → Bool) → test spot ≡ true →
      count_by test (endings play) < count_by test (registrations play)
  pub first : (k : ℕ) (other : Spot) → IsRegistered events play other k → k < place →
      Contains (endings play) other

-- a poll that isn't answered has its attempts: with ticks the alarm first; then an ask as long as some event isn't asked; then
-- all that it waits for; and once the waiting is over the step that gives the first registration up. It isn't done, and what it
-- did is in its time
pub record GoesOn (timeout : Timeout) (events : List Event) (play : List StepMade) (attempts : List Step) :
    Type 0 where
  pub begins : (ticks : ℕ) → timeout ≡ Ticks ticks → play ≡ [] →
      attempts ≡ steps.Clock (clock_ops.Alarm ticks) ∷ []
  pub asking : ((ticks : ℕ) → timeout ≡ Ticks ticks → play ≡ [] → ⊥) → (k : ℕ) (event : Event) →
      slice_get (events_from 0 events) (length (asks play)) ≡ Some (k, event) →
      (step : Step) × (attempts ≡ step ∷ []) × AsksFor event step
  pub waiting : ((ticks : ℕ) → timeout ≡ Ticks ticks → play ≡ [] → ⊥) →
      length (asks play) ≡ length (events_from 0 events) → is_over play ≡ false → WaitsForAll events play attempts
  pub quitting : length (asks play) ≡ length (events_from 0 events) → is_over play ≡ true →
      (step : Step) × (attempts ≡ step ∷ []) × GivesUpFirst events play step
  pub undone : (play ≡ [] → ⊥) → IsDone timeout events play → ⊥
  pub each : EachIsForOne events play
  pub timed : EachIsInTime timeout events play
  pub alarm : KeepsItsAlarm timeout play

-- it holds of each poll of up to eight events, as far as it was played without its answer, over any services
abbrev pub OfEachStage : (Timeout → List Event → List StepMade → List Step → Type 0) → Type 0
OfEachStage P = (word : Word) (timeout : Timeout) (events : List Event) → length events ≤ MOST_EVENTS →
    (play : List StepMade) (stage : Stage) → LeadsOn word timeout events Start play stage →
    AreServed play → P timeout events play (poll_attempts timeout events stage)
