use Rattle.std.specs.Prelude.{ℕ, Bool, true, false, List, [], ◌∷◌}
use Rattle.zk_model_bus.specs.declared.channel.ChanOp.TheVariants as chan_ops
use Rattle.zk_model_bus.specs.declared.channel.ChanReply.TheVariants as chan_replies
use Rattle.zk_model_bus.specs.declared.observer.ObsOp.TheVariants as obs_ops
use Rattle.zk_model_bus.specs.declared.observer.ObsReply.TheVariants as obs_replies
use Rattle.zk_model_wait.specs.declared.clock.ClockOp.TheVariants as clock_ops
use Rattle.zk_model_wait.specs.declared.clock.ClockReply.TheVariants as clock_replies
use Rattle.zk_model_wait.specs.declared.msgq.MsgqOp.TheVariants as msgq_ops
use Rattle.zk_model_wait.specs.declared.msgq.MsgqReply.TheVariants as msgq_replies
use Rattle.zk_model_wait.specs.declared.sem.SemOp.TheVariants as sem_ops
use Rattle.zk_model_wait.specs.declared.sem.SemReply.TheVariants as sem_replies
use Rattle.zk_model_work.specs.declared.ops.WorkReply.TheVariants as replies
use Rattle.zk_worker.specs.declared.steps.Step.{Step}
use Rattle.zk_worker.specs.declared.steps.Step.TheVariants as steps
use Rattle.zk_worker.specs.declared.steps.StepReply.{StepReply}
use Rattle.zk_worker.specs.declared.steps.StepReply.TheVariants as step_replies
use Rattle.zk_words.specs.declared.timeout.Timeout.{Timeout}
use Rattle.zk_words.specs.declared.timeout.Timeout.TheVariants.{No, Forever, Ticks}
use Rattle.zk_words.specs.declared.word.Word.{Word}
use Rattle.zk_worker.specs.declared.frames.Waiting.{Waiting}
use Rattle.zk_worker.specs.declared.frames.Waiting.TheVariants.{Take, Put, Get, Claim, SubWait, Offer, Enter}
use Rattle.zk_worker.specs.declared.frames.Stage.{Stage}
use Rattle.zk_worker.specs.declared.frames.Stage.TheVariants.{Start, Waits, Alarmed, WaitsUntil, Quits}
use Rattle.zk_worker.specs.declared.frames.Progress.{Progress}
use Rattle.zk_worker.specs.declared.frames.Progress.TheVariants.{Goes, Answers}
use Rattle.zk_worker.specs.Replies.{answer_of}

-- the step that opens a wait, by whether its call waits where it isn't served at once
abbrev pub open_step : Waiting → Bool → Step
open_step (Take object) waits = steps.Sem object (sem_ops.Take waits)
open_step (Put object message) waits = steps.Msgq object (msgq_ops.Put message waits)
open_step (Get object) waits = steps.Msgq object (msgq_ops.Get waits)
open_step (Claim object) waits = steps.Chan object (chan_ops.Claim waits)
open_step (SubWait object) waits = steps.Obs object (obs_ops.Take waits)
open_step (Offer object message) waits = steps.Chan object (chan_ops.Offer message waits)
open_step (Enter object) waits = steps.Chan object (chan_ops.Enter waits)

-- the step that ends the wait begun by the entry of this place
abbrev pub end_step : Waiting → ℕ → Step
end_step (Take object) place = steps.Sem object (sem_ops.TakeEnd place)
end_step (Put object message) place = steps.Msgq object (msgq_ops.PutEnd place)
end_step (Get object) place = steps.Msgq object (msgq_ops.GetEnd place)
end_step (Claim object) place = steps.Chan object (chan_ops.ClaimEnd place)
end_step (SubWait object) place = steps.Obs object (obs_ops.TakeEnd place)
end_step (Offer object message) place = steps.Chan object (chan_ops.ClaimEnd place)
end_step (Enter object) place = steps.Chan object (chan_ops.ClaimEnd place)

-- the step that gives that wait up
abbrev pub quit_step : Waiting → ℕ → Step
quit_step (Take object) place = steps.Sem object (sem_ops.TakeQuit place)
quit_step (Put object message) place = steps.Msgq object (msgq_ops.PutQuit place)
quit_step (Get object) place = steps.Msgq object (msgq_ops.GetQuit place)
quit_step (Claim object) place = steps.Chan object (chan_ops.ClaimQuit place)
quit_step (SubWait object) place = steps.Obs object (obs_ops.TakeQuit place)
quit_step (Offer object message) place = steps.Chan object (chan_ops.ClaimQuit place)
quit_step (Enter object) place = steps.Chan object (chan_ops.ClaimQuit place)

-- the first step of a call that may wait: with ticks it sets an alarm
abbrev pub first_step : Waiting → Timeout → Step
first_step waiting No = open_step waiting false
first_step waiting Forever = open_step waiting true
first_step waiting (Ticks ticks) = steps.Clock (clock_ops.Alarm ticks)

-- the next attempts of such a call: while it waits with an alarm, the end of its wait and then that of the alarm
abbrev pub wait_attempts : Waiting → Timeout → Stage → List Step
wait_attempts waiting timeout Start = first_step waiting timeout ∷ []
wait_attempts waiting timeout (Alarmed moment) = open_step waiting true ∷ []
wait_attempts waiting timeout (Waits place) = end_step waiting place ∷ []
wait_attempts waiting timeout (WaitsUntil place moment) =
    end_step waiting place ∷ steps.Clock (clock_ops.AlarmEnd moment) ∷ []
wait_attempts waiting timeout (Quits place) = quit_step waiting place ∷ []
wait_attempts waiting timeout stage = []

-- what the reply to the step that may begin a wait does to its call: it waits, or is answered
abbrev pub opening_progress : Word → StepReply → Progress
opening_progress word (step_replies.Work replies.Wait place) = Goes (Waits place)
opening_progress word (step_replies.Work (replies.WaitFor admission) place) = Goes (Waits place)
opening_progress word (step_replies.Sem object sem_replies.Wait place) = Goes (Waits place)
opening_progress word (step_replies.Msgq object msgq_replies.Wait place) = Goes (Waits place)
opening_progress word (step_replies.Chan object chan_replies.Wait place) = Goes (Waits place)
opening_progress word (step_replies.Obs object obs_replies.Wait place) = Goes (Waits place)
opening_progress word reply = Answers word (answer_of reply)

-- a call that has set an alarm and waits, waits until the moment of its alarm
abbrev pub with_alarm : ℕ → Progress → Progress
with_alarm moment (Goes (Waits place)) = Goes (WaitsUntil place moment)
with_alarm moment progress = progress

-- what the reply to a step does to a call that may wait: an alarm that has ended gives up the wait
abbrev pub wait_progress : Word → Stage → StepReply → Progress
wait_progress word Start (step_replies.Clock (clock_replies.At moment) place) =
    Goes (Alarmed moment)
wait_progress word Start reply = opening_progress word reply
wait_progress word (Alarmed moment) reply = with_alarm moment (opening_progress word reply)
wait_progress word (WaitsUntil place moment) (step_replies.Clock reply at) = Goes (Quits place)
wait_progress word stage reply = Answers word (answer_of reply)
