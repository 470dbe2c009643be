-- What a step does to its call: the call is behind its beginning, or it is answered under its own word.
use Rattle.std.proofs.Common.{◌≡◌, ℕ, Bool, true, false, cond, List, refl}
use Rattle.std.specs.List.{list_any}
use Rattle.zk_base.specs.declared.errors.Errno.TheVariants.{Again}
use Rattle.zk_worker.specs.declared.answers.Answer.TheVariants as answers
use Rattle.zk_line.specs.declared.events.Event.{Event}
use Rattle.zk_model_bus.specs.declared.channel.ChanReply.TheVariants as chan_replies
use Rattle.zk_model_bus.specs.declared.channel.ChanReply.{ChanReply}
use Rattle.zk_model_bus.specs.declared.observer.ObsReply.TheVariants as obs_replies
use Rattle.zk_model_bus.specs.declared.observer.ObsReply.{ObsReply}
use Rattle.zk_model_bus.specs.declared.table.TableReply.TheVariants as table_replies
use Rattle.zk_model_bus.specs.declared.table.TableReply.{TableReply}
use Rattle.zk_model_wait.specs.declared.clock.ClockReply.TheVariants as clock_replies
use Rattle.zk_model_wait.specs.declared.msgq.MsgqReply.TheVariants as msgq_replies
use Rattle.zk_model_wait.specs.declared.msgq.MsgqReply.{MsgqReply}
use Rattle.zk_model_wait.specs.declared.sem.SemReply.TheVariants as sem_replies
use Rattle.zk_model_wait.specs.declared.sem.SemReply.{SemReply}
use Rattle.zk_model_work.specs.declared.ops.Submitted.{Submitted}
use Rattle.zk_model_work.specs.declared.ops.Submitted.TheVariants as submissions
use Rattle.zk_model_work.specs.declared.ops.WorkReply.{WorkReply}
use Rattle.zk_model_work.specs.declared.ops.WorkReply.TheVariants as replies
use Rattle.zk_words.specs.declared.timeout.Timeout.{Timeout}
use Rattle.zk_words.specs.declared.word.Word.{Word}
use Rattle.zk_worker.specs.declared.frames.Alarm.{Alarm}
use Rattle.zk_worker.specs.declared.frames.Alarm.TheVariants.{Unset}
use Rattle.zk_worker.specs.declared.frames.Mark.{Mark}
use Rattle.zk_worker.specs.declared.frames.Plan.{Plan}
use Rattle.zk_worker.specs.declared.frames.Plan.TheVariants.{One, Pair, Twice, Wait, Poll, Channel}
use Rattle.zk_worker.specs.declared.frames.Progress.{Progress}
use Rattle.zk_worker.specs.declared.frames.Progress.TheVariants.{Goes, Answers, Enters}
use Rattle.zk_worker.specs.declared.frames.Stage.{Stage}
use Rattle.zk_worker.specs.declared.frames.Stage.TheVariants.{Start, Polls, Waits, Alarmed, WaitsUntil}
use Rattle.zk_worker.specs.declared.frames.Stage.TheVariants as stages
use Rattle.zk_worker.specs.declared.steps.Step.{Step}
use Rattle.zk_worker.specs.declared.steps.StepReply.{StepReply}
use Rattle.zk_worker.specs.declared.steps.StepReply.TheVariants as step_replies
use Rattle.zk_worker.specs.Calls.{plan_progress}
use Rattle.zk_worker.specs.Checks.{is_oops}
use Rattle.zk_worker.specs.Polls.{poll_answer, is_answered, poll_goes, poll_progress, event_of, marked, mark_of, alarm_after, fresh, is_ready, ready_from}
use Rattle.zk_worker.specs.Publishes.{holds_progress, visit_progress, visits_answer, asking_progress, channel_progress}
use Rattle.zk_worker.specs.Ranges.{is_start}
use Rattle.zk_worker.specs.Replies.{submission_answer, work_answer, sem_answer, msgq_answer, chan_answer, obs_answer, table_answer, answer_of}
use Rattle.zk_worker.specs.Waits.{opening_progress, with_alarm, wait_progress}

-- the call of this word is behind its beginning, or is answered, and not by a check
abbrev pub GoesOn : Word → Progress → Type 0
GoesOn word (Goes stage) = is_start stage ≡ false
GoesOn word (Answers answered answer) = (answered ≡ word) × (is_oops answer ≡ false)
GoesOn word (Enters owner stage) = is_start stage ≡ false

submission-plain : (submitted : Submitted) → is_oops (submission_answer submitted) ≡ false
submission-plain submissions.Already = refl
submission-plain (submissions.Fresh admission queue) = refl
submission-plain (submissions.Rerun admission queue) = refl
submission-plain (submissions.Refused errno) = refl

work-plain : (reply : WorkReply) → is_oops (work_answer reply) ≡ false
work-plain (replies.Sub submitted) = submission-plain submitted
work-plain reply = refl

sem-plain : (reply : SemReply) → is_oops (sem_answer reply) ≡ false
sem-plain sem_replies.Busy = refl
sem-plain reply = refl

msgq-plain : (reply : MsgqReply) → is_oops (msgq_answer reply) ≡ false
msgq-plain msgq_replies.NoMsg = refl
msgq-plain reply = refl

chan-plain : (reply : ChanReply) → is_oops (chan_answer reply) ≡ false
chan-plain chan_replies.Busy = refl
chan-plain reply = refl

obs-plain : (reply : ObsReply) → is_oops (obs_answer reply) ≡ false
obs-plain obs_replies.NoMsg = refl
obs-plain reply = refl

table-plain : (reply : TableReply) → is_oops (table_answer reply) ≡ false
table-plain table_replies.Already = refl
table-plain reply = refl

-- what a reply answers to its own call isn't an oops
plain : (reply : StepReply) → is_oops (answer_of reply) ≡ false
plain (step_replies.Work reply place) = work-plain reply
plain (step_replies.Clock reply place) = refl
plain (step_replies.Table reply place) = table-plain reply
plain (step_replies.Sem object reply place) = sem-plain reply
plain (step_replies.Msgq object reply place) = msgq-plain reply
plain (step_replies.Signal object reply place) = refl
plain (step_replies.Chan object reply place) = chan-plain reply
plain (step_replies.Obs object reply place) = obs-plain reply
plain (step_replies.Flags flags at) = refl
plain (step_replies.Seen seen) = refl

opening-on : (word : Word) (reply : StepReply) → GoesOn word (opening_progress word reply)
opening-on word (step_replies.Work replies.Wait place) = refl
opening-on word (step_replies.Work (replies.WaitFor admission) place) = refl
opening-on word (step_replies.Sem object sem_replies.Wait place) = refl
opening-on word (step_replies.Msgq object msgq_replies.Wait place) = refl
opening-on word (step_replies.Chan object chan_replies.Wait place) = refl
opening-on word (step_replies.Obs object obs_replies.Wait place) = refl
opening-on word reply = (refl, plain reply)

until-on : (word : Word) (moment : ℕ) (progress : Progress) → GoesOn word progress → GoesOn word (with_alarm moment progress)
until-on word moment (Goes (Waits place)) on = refl
until-on word moment (Goes stage) on = on
until-on word moment (Answers answered answer) on = on
until-on word moment (Enters owner stage) on = on

wait-on : (word : Word) (stage : Stage) (reply : StepReply) → GoesOn word (wait_progress word stage reply)
wait-on word Start (step_replies.Clock (clock_replies.At moment) place) = refl
wait-on word Start reply = opening-on word reply
wait-on word (Alarmed moment) reply = until-on word moment (opening_progress word reply) (opening-on word reply)
wait-on word (WaitsUntil place moment) (step_replies.Clock reply at) = refl
wait-on word stage reply = (refl, plain reply)

poll-plain : (marks : List Mark) → is_oops (poll_answer marks) ≡ false
poll-plain marks = by (list_any is_ready marks) where
  by : (b : Bool) → is_oops (cond b (answers.Ready (ready_from 0 marks)) (answers.Refused Again)) ≡ false
  by true = refl
  by false = refl

goes-on : (word : Word) (timeout : Timeout) (events : List Event) (alarm : Alarm) (marks : List Mark) → GoesOn word (poll_goes word timeout events alarm marks)
goes-on word timeout events alarm marks = by (is_answered timeout events alarm marks) where
  by : (b : Bool) → GoesOn word (cond b (Answers word (poll_answer marks)) (Goes (Polls alarm marks)))
  by true = (refl, poll-plain marks)
  by false = refl

poll-on : (word : Word) (timeout : Timeout) (events : List Event) (stage : Stage) (made : Step) (reply : StepReply) → GoesOn word (poll_progress word timeout events stage made reply)
poll-on word timeout events Start made (step_replies.Clock (clock_replies.At moment) place) = refl
poll-on word timeout events Start made reply = goes-on word timeout events (alarm_after Unset reply) (marked fresh (event_of events Unset fresh made) (mark_of reply))
poll-on word timeout events (Polls alarm marks) made reply = goes-on word timeout events (alarm_after alarm reply) (marked marks (event_of events alarm marks made) (mark_of reply))
poll-on word timeout events stage made reply = refl

visits-plain : (full : Bool) → is_oops (visits_answer full) ≡ false
visits-plain true = refl
visits-plain false = refl

visit-on : (word : Word) (left : List ℕ) (full : Bool) (reply : StepReply) → GoesOn word (visit_progress word left full reply)
visit-on word left full (step_replies.Obs observer obs_replies.Run place) = refl
visit-on word left full (step_replies.Obs observer obs_replies.Full place) = refl
visit-on word left full (step_replies.Obs observer reply place) = refl
visit-on word left full reply = (refl, visits-plain full)

holds-on : (word : Word) (reply : StepReply) → GoesOn word (holds_progress word reply)
holds-on word (step_replies.Chan chan (chan_replies.Observers told) place) = refl
holds-on word (step_replies.Chan chan (chan_replies.Bytes message) place) = refl
holds-on word reply = (refl, plain reply)

asking-on : (word : Word) (stage : Stage) (reply : StepReply) → GoesOn word (asking_progress word stage reply)
asking-on word stage (step_replies.Chan chan chan_replies.Got place) = refl
asking-on word stage reply = wait-on word stage reply

channel-on : (word : Word) (stage : Stage) (reply : StepReply) → GoesOn word (channel_progress word stage reply)
channel-on word stages.Holds reply = holds-on word reply
channel-on word (stages.Visits left full) reply = visit-on word left full reply
channel-on word (stages.Reads message) reply = (refl, refl)
channel-on word stage reply = asking-on word stage reply

-- what a step does to its call, whatever the call
pub plan-on : (word : Word) (plan : Plan) (stage : Stage) (made : Step) (reply : StepReply) → GoesOn word (plan_progress word plan stage made reply)
plan-on word (One step) stage made reply = (refl, plain reply)
plan-on word (Pair opening closing) Start made reply = opening-on word reply
plan-on word (Pair opening closing) stage made reply = (refl, plain reply)
plan-on word (Twice first second) Start made reply = refl
plan-on word (Twice first second) stage made reply = (refl, plain reply)
plan-on word (Wait waiting timeout) stage made reply = wait-on word stage reply
plan-on word (Poll timeout events) stage made reply = poll-on word timeout events stage made reply
plan-on word (Channel chan using timeout) stage made reply = channel-on word stage reply
