use Rattle.std.specs.Prelude.{ℕ, ◌+◌, Bool, true, false, not, ◌&&◌, ◌||◌, ◌==◌, if◌then◌else◌, Option, Some, None, is_some, option_to_list, option_and_then, List, [], ◌∷◌, ◌++◌, take, replicate, slice_get, slice_set}
use Rattle.std.specs.List.{list_any, position}
use Rattle.zk_base.specs.declared.errors.Errno.TheVariants.{Again}
use Rattle.zk_model_wait.specs.declared.clock.ClockOp.TheVariants as clock_ops
use Rattle.zk_model_wait.specs.declared.clock.ClockReply.TheVariants as clock_replies
use Rattle.zk_model_wait.specs.declared.msgq.MsgqOp.TheVariants as msgq_ops
use Rattle.zk_model_wait.specs.declared.msgq.MsgqReply.TheVariants as msgq_replies
use Rattle.zk_model_wait.specs.declared.sem.SemOp.TheVariants as sem_ops
use Rattle.zk_model_wait.specs.declared.sem.SemReply.TheVariants as sem_replies
use Rattle.zk_words.specs.declared.timeout.Timeout.{Timeout}
use Rattle.zk_words.specs.declared.timeout.Timeout.TheVariants.{No, Ticks}
use Rattle.zk_words.specs.declared.word.Word.{Word}
use Rattle.zk_worker.specs.declared.answers.Answer.{Answer}
use Rattle.zk_worker.specs.declared.answers.Answer.TheVariants as answers
use Rattle.zk_line.specs.declared.events.Event.{Event}
use Rattle.zk_line.specs.declared.events.Event.TheVariants.{Ignore, Sem, Msgq, Sig}
use Rattle.zk_line.specs.declared.events.TheConstants.{MOST_EVENTS}
use Rattle.zk_worker.specs.declared.frames.Mark.{Mark}
use Rattle.zk_worker.specs.declared.frames.Mark.TheVariants.{Unasked, Armed, Ready, Not}
use Rattle.zk_worker.specs.declared.frames.Alarm.{Alarm}
use Rattle.zk_worker.specs.declared.frames.Alarm.TheVariants.{Unset, Due, Ended}
use Rattle.zk_worker.specs.declared.frames.Stage.{Stage}
use Rattle.zk_worker.specs.declared.frames.Stage.TheVariants.{Start, Polls}
use Rattle.zk_worker.specs.declared.frames.Progress.{Progress}
use Rattle.zk_worker.specs.declared.frames.Progress.TheVariants.{Goes, Answers}
use Rattle.zk_worker.specs.declared.steps.Step.{Step}
use Rattle.zk_worker.specs.declared.steps.Step.TheVariants as steps
use Rattle.zk_worker.specs.declared.steps.StepReply.{StepReply}
use Rattle.zk_worker.specs.declared.steps.StepReply.TheVariants as step_replies
use Rattle.zk_worker.specs.Refs.{ref_object}

-- whether a call of this length waits at all
abbrev pub waits : Timeout → Bool
waits No = false
waits timeout = true

-- the caller is registered for the event
abbrev pub is_armed : Mark → Bool
is_armed (Armed place) = true
is_armed mark = false

-- the event is ready
abbrev pub is_ready : Mark → Bool
is_ready Ready = true
is_ready mark = false

-- the marks of all events before the poll asks
abbrev pub fresh : List Mark
fresh = replicate MOST_EVENTS Unasked

-- whether an event is still to be asked
abbrev pub is_to_ask : Event → Mark → Bool
is_to_ask Ignore mark = false
is_to_ask event Unasked = true
is_to_ask event mark = false

-- the place of the first event that is still to be asked, counted from n
abbrev pub unasked_from : ℕ → List Event → List Mark → Option ℕ
unasked_from n (event ∷ events) (mark ∷ marks) =
    if is_to_ask event mark then Some n else unasked_from (n + 1) events marks
unasked_from n events marks = None

-- whether some event is still to be asked
abbrev pub asks_more : List Event → List Mark → Bool
asks_more events marks = is_some (unasked_from 0 events marks)

-- the step that asks for an event: a signal is looked at, and at a semaphore or a message queue the caller is
-- registered where it waits
abbrev pub ask_step : Bool → Event → Option Step
ask_step registers Ignore = None
ask_step registers (Sem sem) = Some (steps.Sem (ref_object sem) (sem_ops.PollArm registers))
ask_step registers (Msgq queue) =
    Some (steps.Msgq (ref_object queue) (msgq_ops.PollArm registers))
ask_step registers (Sig signal) = Some (steps.LookSignal (ref_object signal) false)

-- the attempt that waits for an event: the caller must be noted where it is registered, and a signal must be found raised
abbrev pub watch_step : Event → Mark → Option Step
watch_step (Sem sem) (Armed place) = Some (steps.Sem (ref_object sem) (sem_ops.PollEnd place))
watch_step (Msgq queue) (Armed place) =
    Some (steps.Msgq (ref_object queue) (msgq_ops.PollEnd place))
watch_step (Sig signal) mark = Some (steps.LookSignal (ref_object signal) true)
watch_step event mark = None

-- the step that gives a registration up
abbrev pub drop_step : Event → Mark → Option Step
drop_step (Sem sem) (Armed place) = Some (steps.Sem (ref_object sem) (sem_ops.PollQuit place))
drop_step (Msgq queue) (Armed place) =
    Some (steps.Msgq (ref_object queue) (msgq_ops.PollQuit place))
drop_step event mark = None

-- the step for the event at a place, if there is one
abbrev pub step_at : (Event → Mark → Option Step) → List Event → List Mark → Option ℕ →
    Option Step
step_at step events marks place =
    option_and_then (λ k. option_and_then (λ event.
    option_and_then (step event) (slice_get marks k)) (slice_get events k)) place

-- the first event that isn't asked yet is asked
abbrev pub asking : Bool → List Event → List Mark → Option Step
asking registers events marks =
    step_at (λ event mark. ask_step registers event) events marks (unasked_from 0 events marks)

-- the first registration is given up
abbrev pub dropping : List Event → List Mark → Option Step
dropping events marks = step_at drop_step events marks (position is_armed marks)

-- the attempts event by event, in order
abbrev pub watching : List Event → List Mark → List Step
watching (event ∷ events) (mark ∷ marks) =
    option_to_list (watch_step event mark) ++ watching events marks
watching events marks = []

-- the end of the alarm, where there is one
abbrev pub alarm_steps : Alarm → List Step
alarm_steps (Due moment) = steps.Clock (clock_ops.AlarmEnd moment) ∷ []
alarm_steps alarm = []

-- the alarm has ended
abbrev pub is_ended : Alarm → Bool
is_ended Ended = true
is_ended alarm = false

-- whether what is registered is given up: an event is ready, or the alarm has ended
abbrev pub is_closing : Alarm → List Mark → Bool
is_closing alarm marks = list_any is_ready marks || is_ended alarm

-- whether the next event that is asked registers the caller: the call waits, and no earlier event was ready
abbrev pub registers : Timeout → List Mark → Bool
registers timeout marks = waits timeout && not (list_any is_ready marks)

-- the next attempts of a poll: it asks; where an event is ready or the alarm has ended, it gives up what is
-- registered; and else it waits, for eight events at most, as a poll has no more
abbrev pub polling : Timeout → List Event → Alarm → List Mark → List Step
polling timeout events alarm marks =
    if asks_more events marks then
    option_to_list (asking (registers timeout marks) events marks) else
    if is_closing alarm marks then option_to_list (dropping events marks) else
    watching (take MOST_EVENTS events) marks ++ alarm_steps alarm

-- the first attempts of a poll: with ticks it sets an alarm
abbrev pub poll_start : Timeout → List Event → List Step
poll_start (Ticks ticks) events = steps.Clock (clock_ops.Alarm ticks) ∷ []
poll_start timeout events = polling timeout events Unset fresh

-- the next attempts of a poll at a stage
abbrev pub poll_attempts : Timeout → List Event → Stage → List Step
poll_attempts timeout events Start = poll_start timeout events
poll_attempts timeout events (Polls alarm marks) = polling timeout events alarm marks
poll_attempts timeout events stage = []

-- the mark that a reply gives to its event
abbrev pub mark_of : StepReply → Mark
mark_of (step_replies.Sem object sem_replies.Ready place) = Ready
mark_of (step_replies.Sem object sem_replies.Noted place) = Ready
mark_of (step_replies.Sem object sem_replies.Armed place) = Armed place
mark_of (step_replies.Msgq object msgq_replies.Ready place) = Ready
mark_of (step_replies.Msgq object msgq_replies.Noted place) = Ready
mark_of (step_replies.Msgq object msgq_replies.Armed place) = Armed place
mark_of (step_replies.Seen seen) = if seen.raised then Ready else Not
mark_of reply = Not

-- whether a step is the attempt that waits for this event
abbrev pub is_watch : Step → Event → Mark → Bool
is_watch (steps.Sem asked (sem_ops.PollEnd ended)) (Sem sem) (Armed place) =
    asked == ref_object sem && ended == place
is_watch (steps.Msgq asked (msgq_ops.PollEnd ended)) (Msgq queue) (Armed place) =
    asked == ref_object queue && ended == place
is_watch (steps.LookSignal asked must) (Sig signal) mark = asked == ref_object signal
is_watch made event mark = false

-- the place of the first event that a step waits for, counted from n
abbrev pub watched_from : ℕ → Step → List Event → List Mark → Option ℕ
watched_from n made (event ∷ events) (mark ∷ marks) =
    if is_watch made event mark then Some n else watched_from (n + 1) made events marks
watched_from n made events marks = None

-- the place of the event that a step is for
abbrev pub event_of : List Event → Alarm → List Mark → Step → Option ℕ
event_of events alarm marks made =
    if asks_more events marks then unasked_from 0 events marks else
    if is_closing alarm marks then position is_armed marks else
    watched_from 0 made events marks

-- the marks with this one at a place
abbrev pub marked : List Mark → Option ℕ → Mark → List Mark
marked marks None mark = marks
marked marks (Some place) mark = slice_set marks place mark

-- the alarm after a reply: the clock answers where it has ended
abbrev pub alarm_after : Alarm → StepReply → Alarm
alarm_after alarm (step_replies.Clock reply place) = Ended
alarm_after alarm reply = alarm

-- the positions of the ready events, counted from n
abbrev pub ready_from : ℕ → List Mark → List ℕ
ready_from n [] = []
ready_from n (mark ∷ marks) =
    if is_ready mark then n ∷ ready_from (n + 1) marks else ready_from (n + 1) marks

-- what a poll answers: the positions of the ready events, or again where none is
abbrev pub poll_answer : List Mark → Answer
poll_answer marks =
    if list_any is_ready marks then answers.Ready (ready_from 0 marks) else answers.Refused Again

-- whether a poll has its answer: all is asked, it doesn't wait any more, and nothing is registered
abbrev pub is_answered : Timeout → List Event → Alarm → List Mark → Bool
is_answered timeout events alarm marks =
    not (asks_more events marks)
    && ((is_closing alarm marks || not (waits timeout)) && not (list_any is_armed marks))

-- a poll has its answer, or goes on
abbrev pub poll_goes : Word → Timeout → List Event → Alarm → List Mark → Progress
poll_goes word timeout events alarm marks =
    if is_answered timeout events alarm marks then Answers word (poll_answer marks) else
    Goes (Polls alarm marks)

-- what the reply to a step does to a poll with this alarm and these marks
abbrev pub polled : Word → Timeout → List Event → Alarm → List Mark → Step → StepReply → Progress
polled word timeout events alarm marks made reply =
    poll_goes word timeout events (alarm_after alarm reply)
    (marked marks (event_of events alarm marks made) (mark_of reply))

-- what the reply to a step does to a poll at a stage
abbrev pub poll_progress : Word → Timeout → List Event → Stage → Step → StepReply → Progress
poll_progress word timeout events Start made (step_replies.Clock (clock_replies.At moment) place) =
    Goes (Polls (Due moment) fresh)
poll_progress word timeout events Start made reply =
    polled word timeout events Unset fresh made reply
poll_progress word timeout events (Polls alarm marks) made reply =
    polled word timeout events alarm marks made reply
poll_progress word timeout events stage made reply = Goes stage
