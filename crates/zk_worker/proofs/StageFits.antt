-- What the reply to a step does to a call keeps the observers that the call visits.
use Rattle.std.proofs.Common.{◌≡◌, ℕ, zero, suc, Bool, true, false, cond, Option, Some, None, is_some, List, [], ◌∷◌, refl, sym, subst, arith}
use Rattle.std.specs.List.{slice_get}
use Rattle.std.proofs.lemmas.List.Elements.{All-head, All-tail}
use Rattle.zk_line.specs.declared.types.Decl.{Decl}
use Rattle.zk_line.specs.declared.types.Call.{Call}
use Rattle.zk_line.specs.declared.events.Event.{Event}
use Rattle.zk_line.specs.Calls.{word_of}
use Rattle.zk_line.specs.declared.types.Decl.TheVariants as decls_of
use Rattle.zk_line.specs.Objects.{places, is_at, is_thread, is_item}
use Rattle.zk_scenario.specs.Content.{Content}
use Rattle.zk_scenario.specs.Players.{calls_of}
use Rattle.zk_words.specs.declared.timeout.Timeout.{Timeout}
use Rattle.zk_words.specs.declared.word.Word.{Word}
use Rattle.zk_model_bus.specs.declared.channel.ChanReply.TheVariants as chan_replies
use Rattle.zk_model_bus.specs.declared.observer.ObsReply.TheVariants as obs_replies
use Rattle.zk_model_wait.specs.declared.clock.ClockReply.TheVariants as clock_replies
use Rattle.zk_model_wait.specs.declared.msgq.MsgqReply.TheVariants as msgq_replies
use Rattle.zk_model_wait.specs.declared.sem.SemReply.TheVariants as sem_replies
use Rattle.zk_model_work.specs.declared.ops.WorkReply.TheVariants as work_replies
use Rattle.zk_worker.specs.declared.steps.Step.{Step}
use Rattle.zk_worker.specs.declared.steps.StepReply.{StepReply}
use Rattle.zk_worker.specs.declared.steps.StepReply.TheVariants as step_replies
use Rattle.zk_worker.specs.declared.frames.Alarm.{Alarm}
use Rattle.zk_worker.specs.declared.frames.Alarm.TheVariants.{Unset}
use Rattle.zk_worker.specs.declared.frames.Frame.{Frame}
use Rattle.zk_worker.specs.declared.frames.Mark.{Mark}
use Rattle.zk_worker.specs.declared.frames.Plan.{Plan}
use Rattle.zk_worker.specs.declared.frames.Plan.TheVariants.{One, Pair, Twice, Wait, Poll, Channel}
use Rattle.zk_worker.specs.declared.frames.Progress.{Progress}
use Rattle.zk_worker.specs.declared.frames.Progress.TheVariants.{Goes, Answers, Enters}
use Rattle.zk_worker.specs.declared.frames.Role.{Role}
use Rattle.zk_worker.specs.declared.frames.Role.TheVariants.{Script, Worker}
use Rattle.zk_worker.specs.declared.frames.Stage.{Stage}
use Rattle.zk_worker.specs.declared.frames.Stage.TheVariants.{Start, Waits, Alarmed, WaitsUntil, Polls, Holds, Visits, Reads}
use Rattle.zk_worker.specs.Calls.{plan_of, plan_progress}
use Rattle.zk_worker.specs.Families.{is_declared}
use Rattle.zk_worker.specs.Machines.{observer_start}
use Rattle.zk_worker.specs.Polls.{poll_answer, is_answered, poll_goes, poll_progress, event_of, marked, mark_of, alarm_after, fresh}
use Rattle.zk_worker.specs.Protocol.{run_progress, worker_progress, call_progress, role_progress, frames_progress}
use Rattle.zk_worker.specs.Publishes.{rest_of, holds_progress, visit_progress, asking_progress, channel_progress}
use Rattle.zk_worker.specs.Ranges.{AreObservers, StageFits, FrameFits, FramesFit, ReplyFits}
use Rattle.zk_worker.proofs.TableSetups.{placed}
use Rattle.zk_worker.specs.Waits.{opening_progress, with_alarm, wait_progress}

-- the observers that are left behind what a reply does are declared as such, and what is entered is no thread's script
abbrev pub ProgressFits : List Decl → Progress → Type 0
ProgressFits decls (Goes stage) = StageFits decls stage
ProgressFits decls (Answers word answer) = Unit {0}
ProgressFits decls (Enters owner stage) = StageFits decls stage × (is_at is_thread decls owner ≡ false)

opening-fits : (decls : List Decl) (word : Word) (reply : StepReply) → ProgressFits decls (opening_progress word reply)
opening-fits decls word (step_replies.Work work_replies.Wait place) = tt
opening-fits decls word (step_replies.Work (work_replies.WaitFor admission) place) = tt
opening-fits decls word (step_replies.Sem object sem_replies.Wait place) = tt
opening-fits decls word (step_replies.Msgq object msgq_replies.Wait place) = tt
opening-fits decls word (step_replies.Chan object chan_replies.Wait place) = tt
opening-fits decls word (step_replies.Obs object obs_replies.Wait place) = tt
opening-fits decls word reply = tt

until-fits : (decls : List Decl) (moment : ℕ) (progress : Progress) → ProgressFits decls progress → ProgressFits decls (with_alarm moment progress)
until-fits decls moment (Goes (Waits place)) fits = tt
until-fits decls moment progress fits = fits

wait_progress-fits : (decls : List Decl) (word : Word) (stage : Stage) (reply : StepReply) → ProgressFits decls (wait_progress word stage reply)
wait_progress-fits decls word Start (step_replies.Clock (clock_replies.At moment) place) = tt
wait_progress-fits decls word Start reply = opening-fits decls word reply
wait_progress-fits decls word (Alarmed moment) reply = until-fits decls moment (opening_progress word reply) (opening-fits decls word reply)
wait_progress-fits decls word (WaitsUntil place moment) (step_replies.Clock reply at) = tt
wait_progress-fits decls word stage reply = tt

poll_goes-fits : (decls : List Decl) (word : Word) (timeout : Timeout) (events : List Event) (alarm : Alarm) (marks : List Mark) →
    ProgressFits decls (poll_goes word timeout events alarm marks)
poll_goes-fits decls word timeout events alarm marks =
    elim (is_answered timeout events alarm marks) as (λ b. ProgressFits decls (cond b (Answers word (poll_answer marks)) (Goes (Polls alarm marks))))
    [ true ↦ tt | false ↦ tt ]

poll_progress-fits : (decls : List Decl) (word : Word) (timeout : Timeout) (events : List Event) (stage : Stage) (made : Step) (reply : StepReply) →
    StageFits decls stage → ProgressFits decls (poll_progress word timeout events stage made reply)
poll_progress-fits decls word timeout events Start made (step_replies.Clock (clock_replies.At moment) place) fits = tt
poll_progress-fits decls word timeout events Start made reply fits =
    poll_goes-fits decls word timeout events (alarm_after Unset reply) (marked fresh (event_of events Unset fresh made) (mark_of reply))
poll_progress-fits decls word timeout events (Polls alarm marks) made reply fits =
    poll_goes-fits decls word timeout events (alarm_after alarm reply) (marked marks (event_of events alarm marks made) (mark_of reply))
poll_progress-fits decls word timeout events stage made reply fits = fits

-- neither an item nor an observer is a thread
no-thread-at : (test : Decl → Bool) (decls : List Decl) (object : ℕ) → ((d : Decl) → test d ≡ true → is_thread d ≡ false) → is_at test decls object ≡ true → is_at is_thread decls object ≡ false
no-thread-at test [] object never is = absurd (cc)
no-thread-at test (d ∷ ds) zero never is = never d is
no-thread-at test (d ∷ ds) (suc object) never is = no-thread-at test ds object never is

item-never : (d : Decl) → is_item d ≡ true → is_thread d ≡ false
item-never (decls_of.Item name) is = refl
item-never d is = absurd (cc)

observer-never : (d : Decl) → is_some (observer_start d) ≡ true → is_thread d ≡ false
observer-never (decls_of.Listener name) is = refl
observer-never (decls_of.Sub name capacity) is = refl
observer-never d is = absurd (cc)

rest-fits : (decls : List Decl) (left : List ℕ) → AreObservers decls left → AreObservers decls (rest_of left)
rest-fits decls [] are = are
rest-fits decls (observer ∷ left) are = All-tail (λ o. is_declared observer_start decls o ≡ true) observer left are

visit_progress-fits : (decls : List Decl) (word : Word) (left : List ℕ) (full : Bool) (reply : StepReply) → AreObservers decls left → ReplyFits decls reply →
    ProgressFits decls (visit_progress word left full reply)
visit_progress-fits decls word left full (step_replies.Obs observer obs_replies.Run place) are told = (rest-fits decls left are, no-thread-at (λ (d : Decl). is_some (observer_start d)) decls observer observer-never told)
visit_progress-fits decls word left full (step_replies.Obs observer obs_replies.Full place) are told = rest-fits decls left are
visit_progress-fits decls word left full (step_replies.Obs observer reply place) are told = rest-fits decls left are
visit_progress-fits decls word left full reply are told = tt

holds_progress-fits : (decls : List Decl) (word : Word) (reply : StepReply) → ReplyFits decls reply → ProgressFits decls (holds_progress word reply)
holds_progress-fits decls word (step_replies.Chan chan (chan_replies.Observers told) place) fits = fits
holds_progress-fits decls word (step_replies.Chan chan (chan_replies.Bytes message) place) fits = tt
holds_progress-fits decls word reply fits = tt

asking_progress-fits : (decls : List Decl) (word : Word) (stage : Stage) (reply : StepReply) → ProgressFits decls (asking_progress word stage reply)
asking_progress-fits decls word stage (step_replies.Chan chan chan_replies.Got place) = tt
asking_progress-fits decls word stage reply = wait_progress-fits decls word stage reply

channel_progress-fits : (decls : List Decl) (word : Word) (stage : Stage) (reply : StepReply) → StageFits decls stage → ReplyFits decls reply →
    ProgressFits decls (channel_progress word stage reply)
channel_progress-fits decls word Holds reply fits told = holds_progress-fits decls word reply told
channel_progress-fits decls word (Visits left full) reply fits told = visit_progress-fits decls word left full reply fits told
channel_progress-fits decls word (Reads message) reply fits told = tt
channel_progress-fits decls word stage reply fits told = asking_progress-fits decls word stage reply

plan_progress-fits : (decls : List Decl) (word : Word) (plan : Plan) (stage : Stage) (made : Step) (reply : StepReply) → StageFits decls stage →
    ReplyFits decls reply → ProgressFits decls (plan_progress word plan stage made reply)
plan_progress-fits decls word (One step) stage made reply fits told = tt
plan_progress-fits decls word (Pair opening closing) Start made reply fits told = opening-fits decls word reply
plan_progress-fits decls word (Pair opening closing) stage made reply fits told = tt
plan_progress-fits decls word (Twice first second) Start made reply fits told = tt
plan_progress-fits decls word (Twice first second) stage made reply fits told = tt
plan_progress-fits decls word (Wait waiting timeout) stage made reply fits told = wait_progress-fits decls word stage reply
plan_progress-fits decls word (Poll timeout events) stage made reply fits told = poll_progress-fits decls word timeout events stage made reply fits
plan_progress-fits decls word (Channel chan using timeout) stage made reply fits told = channel_progress-fits decls word stage reply fits told

run-fits : (decls : List Decl) (item : ℕ) (owner : Option ℕ) → slice_get (places is_item decls) item ≡ owner → ProgressFits decls (run_progress owner)
run-fits decls item None is = tt
run-fits decls item (Some owner) is =
    let at = placed 0 is_item decls item owner is in
    (tt, no-thread-at is_item decls owner item-never (subst (λ (o : ℕ). is_at is_item decls o ≡ true) (sym at.1) (subst (λ (o : ℕ). is_at is_item decls o ≡ true) (omega arith) at.2)))

worker_progress-fits : (decls : List Decl) (stage : Stage) (reply : StepReply) → ProgressFits decls (worker_progress decls stage reply)
worker_progress-fits decls Start (step_replies.Work (work_replies.Run item admission) place) = run-fits decls item (slice_get (places is_item decls) item) refl
worker_progress-fits decls stage reply = tt

call_progress-fits : (decls : List Decl) (call : Option Call) (stage : Stage) (made : Step) (reply : StepReply) → StageFits decls stage →
    ReplyFits decls reply → ProgressFits decls (call_progress decls call stage made reply)
call_progress-fits decls None stage made reply fits told = fits
call_progress-fits decls (Some call) stage made reply fits told = plan_progress-fits decls (word_of call) (plan_of decls call) stage made reply fits told

pub frames_progress-fits : (s : Content) (frames : List Frame) (made : Step) (reply : StepReply) → FramesFit s.decls frames → ReplyFits s.decls reply →
    ProgressFits s.decls (frames_progress s frames made reply)
frames_progress-fits s [] made reply fits told = tt
frames_progress-fits s (frame ∷ below) made reply fits told = by_role frame.role
  where
    here : StageFits s.decls frame.stage
    here = (All-head (FrameFits s.decls) frame below fits).1

    by_role : (role : Role) → ProgressFits s.decls (role_progress s role frame.next frame.stage made reply)
    by_role (Script owner) = call_progress-fits s.decls (slice_get (calls_of s.scripts owner) frame.next) frame.stage made reply here told
    by_role (Worker queue) = worker_progress-fits s.decls frame.stage reply
