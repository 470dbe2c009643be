-- A step of an open script or run, other than the checks of a user's call, is no check, and its call is answered by no oops.
use Rattle.std.proofs.Common.{◌≡◌, ℕ, Bool, true, false, Option, Some, None, List, [], ◌∷◌, refl, sym, subst}
use Rattle.std.specs.List.{slice_get}
use Rattle.zk_line.specs.Calls.{word_of}
use Rattle.zk_line.specs.Objects.{number_of, places, is_item}
use Rattle.zk_line.specs.declared.types.Call.{Call}
use Rattle.zk_line.specs.declared.types.Decl.{Decl}
use Rattle.zk_model_bus.specs.declared.channel.ChanOp.TheVariants as chan_ops
use Rattle.zk_model_bus.specs.declared.channel.ChanReply.TheVariants as chan_replies
use Rattle.zk_model_bus.specs.declared.observer.ObsReply.TheVariants as obs_replies
use Rattle.zk_model_work.specs.declared.ops.WorkOp.TheVariants as work_ops
use Rattle.zk_model_work.specs.declared.ops.WorkReply.TheVariants as work_replies
use Rattle.zk_scenario.specs.Content.{Content}
use Rattle.zk_scenario.specs.Players.{calls_of}
use Rattle.zk_words.specs.declared.timeout.Timeout.{Timeout}
use Rattle.zk_words.specs.declared.word.Word.{Word}
use Rattle.zk_worker.specs.declared.frames.Frame.{Frame}
use Rattle.zk_worker.specs.declared.frames.Plan.{Plan}
use Rattle.zk_worker.specs.declared.frames.Plan.TheVariants as plans
use Rattle.zk_worker.specs.declared.frames.Progress.{Progress}
use Rattle.zk_worker.specs.declared.frames.Progress.TheVariants.{Goes, Answers, Enters}
use Rattle.zk_worker.specs.declared.frames.Role.{Role}
use Rattle.zk_worker.specs.declared.frames.Role.TheVariants.{Script, Worker}
use Rattle.zk_worker.specs.declared.frames.Stage.{Stage}
use Rattle.zk_worker.specs.declared.frames.Stage.TheVariants as stages
use Rattle.zk_worker.specs.declared.frames.Using.{Using}
use Rattle.zk_worker.specs.declared.frames.Using.TheVariants.{Publish, Notify, Read}
use Rattle.zk_worker.specs.declared.steps.Step.{Step}
use Rattle.zk_worker.specs.declared.steps.Step.TheVariants as steps
use Rattle.zk_worker.specs.declared.steps.StepReply.{StepReply}
use Rattle.zk_worker.specs.declared.steps.StepReply.TheVariants as step_replies
use Rattle.zk_worker.specs.Calls.{plan_of, plan_attempts, plan_progress}
use Rattle.zk_player_laws.specs.CheckLaws.{is_check}
use Rattle.zk_worker.specs.Checks.{is_oops}
use Rattle.zk_worker.specs.Protocol.{call_attempts, call_progress, frames_attempts, frames_progress, role_attempts, role_progress, run_progress, worker_attempts, worker_progress}
use Rattle.zk_worker.specs.Publishes.{asks_for, use_step, visit_step, channel_attempts, channel_progress, visits_answer}
use Rattle.zk_worker.specs.Waits.{wait_progress}
use Rattle.zk_player_laws.proofs.OtherCalls.{is_channel, GoesWith, only-one, checks-none, no-oops, wait-calm, wait-goes, call-calm, plan-goes}

-- No check.

channel-no-check : (chan : ℕ) (using_ : Using) (timeout : Timeout) (stage : Stage) (k : ℕ) (step : Step) → slice_get (channel_attempts chan using_ timeout stage) k ≡ Some step → is_check step ≡ false
channel-no-check chan using_ timeout stages.Holds k step is = only-one is_check (use_step chan using_) k step (by using_) is where
  by : (using_ : Using) → is_check (use_step chan using_) ≡ false
  by (Publish message) = refl
  by Notify = refl
  by Read = refl
channel-no-check chan using_ timeout (stages.Visits left full) k step is = only-one is_check (visit_step chan left) k step (by left) is where
  by : (left : List ℕ) → is_check (visit_step chan left) ≡ false
  by [] = refl
  by (observer ∷ more) = refl
channel-no-check chan using_ timeout (stages.Reads message) k step is = only-one is_check (steps.Chan chan chan_ops.Free) k step refl is
channel-no-check chan using_ timeout stage k step is = checks-none step (wait-calm (asks_for chan using_) timeout stage k step is)

plan-no-check : (decls : List Decl) (call : Call) (plan : Plan) → plan_of decls call ≡ plan → (stage : Stage) (k : ℕ) (step : Step) → slice_get (plan_attempts (plan_of decls call) stage) k ≡ Some step →
    is_check step ≡ false
plan-no-check decls call (plans.Channel chan using_ timeout) same stage k step is =
    channel-no-check chan using_ timeout stage k step (subst (λ (p : Plan). slice_get (plan_attempts p stage) k ≡ Some step) same is)
plan-no-check decls call plan same stage k step is = checks-none step (call-calm decls call stage k step (subst (λ (p : Plan). is_channel p ≡ false) (sym same) refl) is)

call-no-check : (decls : List Decl) (call : Option Call) (stage : Stage) (k : ℕ) (step : Step) → slice_get (call_attempts decls call stage) k ≡ Some step → is_check step ≡ false
call-no-check decls None stage k step is = absurd (cc)
call-no-check decls (Some call) stage k step is = plan-no-check decls call (plan_of decls call) refl stage k step is

worker-no-check : (queue : ℕ) (stage : Stage) (k : ℕ) (step : Step) → slice_get (worker_attempts queue stage) k ≡ Some step → is_check step ≡ false
worker-no-check queue stages.Start k step is = only-one is_check (steps.Work (work_ops.Begin queue)) k step refl is
worker-no-check queue stages.Runs k step is = only-one is_check (steps.Work (work_ops.End queue)) k step refl is
worker-no-check queue stage k step is = absurd (cc)

-- a script or run makes none of its own
pub own-no-check : (s : Content) (frames : List Frame) (k : ℕ) (step : Step) → slice_get (frames_attempts s frames) k ≡ Some step → is_check step ≡ false
own-no-check s [] k step is = absurd (cc)
own-no-check s (frame ∷ below) k step is = by frame.role is where
  by : (role : Role) → slice_get (role_attempts s role frame.next frame.stage) k ≡ Some step → is_check step ≡ false
  by (Script owner) is = call-no-check s.decls (slice_get (calls_of s.scripts owner) frame.next) frame.stage k step is
  by (Worker queue) is = worker-no-check (number_of s.decls queue) frame.stage k step is

-- No oops.

-- what is answered here is no oops
abbrev pub AnswersNoOops : Progress → Type 0
AnswersNoOops (Answers word answer) = is_oops answer ≡ false
AnswersNoOops progress = Unit {0}

-- of a reply that enters no script
goes-so : (progress : Progress) → GoesWith (λ stage. Unit {0}) (λ word answer. is_oops answer ≡ false) progress → AnswersNoOops progress
goes-so (Goes stage) goes = tt
goes-so (Answers word answer) goes = goes
goes-so (Enters owner stage) goes = tt

wait-no-oops : (word : Word) (stage : Stage) (reply : StepReply) → AnswersNoOops (wait_progress word stage reply)
wait-no-oops word stage reply = goes-so (wait_progress word stage reply)
    (wait-goes (λ stage. Unit {0}) (λ word answer. is_oops answer ≡ false) (λ stage is. tt) word (λ answer is. is) stage reply)

visits-no-oops : (full : Bool) → is_oops (visits_answer full) ≡ false
visits-no-oops true = refl
visits-no-oops false = refl

channel-no-oops : (word : Word) (stage : Stage) (reply : StepReply) → AnswersNoOops (channel_progress word stage reply)
channel-no-oops word stages.Holds (step_replies.Chan chan (chan_replies.Observers told) place) = tt
channel-no-oops word stages.Holds (step_replies.Chan chan (chan_replies.Bytes message) place) = tt
channel-no-oops word stages.Holds reply = no-oops reply
channel-no-oops word (stages.Visits left full) (step_replies.Obs observer obs_replies.Run place) = tt
channel-no-oops word (stages.Visits left full) (step_replies.Obs observer obs_replies.Full place) = tt
channel-no-oops word (stages.Visits left full) (step_replies.Obs observer reply place) = tt
channel-no-oops word (stages.Visits left full) reply = visits-no-oops full
channel-no-oops word (stages.Reads message) reply = refl
channel-no-oops word stage (step_replies.Chan chan chan_replies.Got place) = tt
channel-no-oops word stage reply = wait-no-oops word stage reply

plan-no-oops : (word : Word) (plan : Plan) (stage : Stage) (made : Step) (reply : StepReply) → AnswersNoOops (plan_progress word plan stage made reply)
plan-no-oops word (plans.Channel chan using_ timeout) stage made reply = channel-no-oops word stage reply
plan-no-oops word plan stage made reply = goes-so (plan_progress word plan stage made reply)
    (plan-goes (λ stage. Unit {0}) (λ word answer. is_oops answer ≡ false) (λ stage is. tt) word (λ answer is. is) plan stage made reply refl tt)

call-no-oops : (decls : List Decl) (call : Option Call) (stage : Stage) (made : Step) (reply : StepReply) → AnswersNoOops (call_progress decls call stage made reply)
call-no-oops decls None stage made reply = tt
call-no-oops decls (Some call) stage made reply = plan-no-oops (word_of call) (plan_of decls call) stage made reply

worker-no-oops : (decls : List Decl) (stage : Stage) (reply : StepReply) → AnswersNoOops (worker_progress decls stage reply)
worker-no-oops decls stages.Start (step_replies.Work (work_replies.Run item admission) place) = by (slice_get (places is_item decls) item) where
  by : (owner : Option ℕ) → AnswersNoOops (run_progress owner)
  by None = tt
  by (Some owner) = tt
worker-no-oops decls stage reply = tt

-- a script or run is answered by none for a step of its own
pub own-no-oops : (s : Content) (frames : List Frame) (made : Step) (reply : StepReply) → AnswersNoOops (frames_progress s frames made reply)
own-no-oops s [] made reply = tt
own-no-oops s (frame ∷ below) made reply = by frame.role where
  by : (role : Role) → AnswersNoOops (role_progress s role frame.next frame.stage made reply)
  by (Script owner) = call-no-oops s.decls (slice_get (calls_of s.scripts owner) frame.next) frame.stage made reply
  by (Worker queue) = worker-no-oops s.decls frame.stage reply
