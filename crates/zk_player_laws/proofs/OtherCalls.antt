-- A step of a call that gets no channel for itself: it frees none, is no check, and enters no script.
use Rattle.std.proofs.Common.{◌≡◌, ◌≢◌, ℕ, zero, suc, Bool, true, false, not, ◌&&◌, ◌||◌, cond, Option, Some, None, is_some, List, [], ◌∷◌, All, refl, subst}
use Rattle.std.specs.List.{slice_get, list_any}
use Rattle.std.proofs.lemmas.Bool.{and_parts}
use Rattle.std.proofs.lemmas.List.Elements.{All-nil, All-cons}
use Rattle.zk_base.specs.declared.errors.Errno.TheVariants.{Again}
use Rattle.zk_base.specs.declared.ids.Who.{Who}
use Rattle.zk_base.proofs.Lists.{All-at, slice_get-one}
use Rattle.zk_line.specs.declared.events.Event.{Event}
use Rattle.zk_line.specs.declared.events.Event.TheVariants as events
use Rattle.zk_line.specs.declared.types.Call.{Call}
use Rattle.zk_line.specs.declared.types.Call.TheVariants as calls
use Rattle.zk_line.specs.declared.types.Decl.{Decl}
use Rattle.zk_model_bus.specs.declared.channel.ChanOp.{ChanOp}
use Rattle.zk_model_bus.specs.declared.channel.ChanOp.TheVariants as ops
use Rattle.zk_model_bus.specs.declared.channel.ChanReply.TheVariants as chan_replies
use Rattle.zk_model_bus.specs.declared.observer.ObsReply.TheVariants as obs_replies
use Rattle.zk_model_bus.specs.declared.table.TableReply.TheVariants as table_replies
use Rattle.zk_model_wait.specs.declared.clock.ClockOp.TheVariants as clock_ops
use Rattle.zk_model_wait.specs.declared.clock.ClockReply.TheVariants as clock_replies
use Rattle.zk_model_wait.specs.declared.msgq.MsgqReply.TheVariants as msgq_replies
use Rattle.zk_model_wait.specs.declared.sem.SemReply.TheVariants as sem_replies
use Rattle.zk_model_work.specs.declared.ops.Submitted.{Submitted}
use Rattle.zk_model_work.specs.declared.ops.Submitted.TheVariants as submissions
use Rattle.zk_model_work.specs.declared.ops.WorkReply.TheVariants as work_replies
use Rattle.zk_scenario.specs.Content.{Content}
use Rattle.zk_words.specs.declared.timeout.Timeout.{Timeout}
use Rattle.zk_words.specs.declared.timeout.Timeout.TheVariants.{No, Forever, Ticks}
use Rattle.zk_words.specs.declared.word.Word.{Word}
use Rattle.zk_worker.specs.declared.answers.Answer.{Answer}
use Rattle.zk_worker.specs.declared.answers.Answer.TheVariants as answers
use Rattle.zk_worker.specs.declared.steps.Step.{Step}
use Rattle.zk_worker.specs.declared.steps.Step.TheVariants as steps
use Rattle.zk_worker.specs.declared.steps.StepReply.{StepReply}
use Rattle.zk_worker.specs.declared.steps.StepReply.TheVariants as step_replies
use Rattle.zk_worker.specs.declared.frames.Alarm.{Alarm}
use Rattle.zk_worker.specs.declared.frames.Alarm.TheVariants as alarms
use Rattle.zk_worker.specs.declared.frames.Closing.{Closing}
use Rattle.zk_worker.specs.declared.frames.Closing.TheVariants as closings
use Rattle.zk_worker.specs.declared.frames.Mark.{Mark}
use Rattle.zk_worker.specs.declared.frames.Mark.TheVariants.{Armed}
use Rattle.zk_worker.specs.declared.frames.Plan.{Plan}
use Rattle.zk_worker.specs.declared.frames.Plan.TheVariants as plans
use Rattle.zk_worker.specs.declared.frames.Waiting.{Waiting}
use Rattle.zk_worker.specs.declared.frames.Waiting.TheVariants as waitings
use Rattle.zk_worker.specs.declared.frames.Stage.{Stage}
use Rattle.zk_worker.specs.declared.frames.Stage.TheVariants as stages
use Rattle.zk_worker.specs.declared.frames.Progress.{Progress}
use Rattle.zk_worker.specs.declared.frames.Progress.TheVariants.{Goes, Answers, Enters}
use Rattle.zk_worker.specs.Calls.{plan_of, closing_step, plan_attempts, plan_progress}
use Rattle.zk_worker.specs.Waits.{open_step, end_step, quit_step, first_step, wait_attempts, opening_progress, with_alarm, wait_progress}
use Rattle.zk_worker.specs.Checks.{is_oops}
use Rattle.zk_worker.specs.Replies.{submission_answer, answer_of}
use Rattle.zk_worker.specs.Polls.{is_ready, ready_from, poll_attempts, poll_progress, poll_goes, poll_answer, is_answered, ask_step, watch_step, drop_step, fresh, alarm_after, marked, event_of, mark_of}
use Rattle.zk_worker.specs.Publishes.{channel_progress}
use Rattle.zk_player_laws.specs.StackLaws.{ChanHistories, IsReplied, chans_after}
use Rattle.zk_player_laws.specs.CheckLaws.{is_check}
use Rattle.zk_player_laws.specs.VisitLaws.{used_chan}
use Rattle.zk_player_laws.proofs.OpenScripts.{plan_got, plan_waits, IsHeld, IsKept, IsKeptBy}
use Rattle.zk_player_laws.proofs.OwnEntries.{has-replied, held-after, kept-quiet}
use Rattle.zk_worker.proofs.PollSteps.{poll_attempts-each}

-- a step that uses a channel or is a check: no call makes one of its own that hasn't the channel
abbrev pub uses_or_checks : Step → Bool
uses_or_checks step = is_some (used_chan step) || is_check step

or-neither : (a b : Bool) → (a || b) ≡ false → (a ≡ false) × (b ≡ false)
or-neither true b neither = absurd (cc)
or-neither false b neither = (refl, neither)

pub uses-none : (step : Step) → uses_or_checks step ≡ false → is_some (used_chan step) ≡ false
uses-none step calm = (or-neither (is_some (used_chan step)) (is_check step) calm).0

pub checks-none : (step : Step) → uses_or_checks step ≡ false → is_check step ≡ false
checks-none step calm = (or-neither (is_some (used_chan step)) (is_check step) calm).1

not-free : (object : ℕ) (op : ChanOp) → uses_or_checks (steps.Chan object op) ≡ false → op ≢ ops.Free
not-free object ops.Free frees = absurd (cc)
not-free object op frees = λ same. cc

-- what a player holds it holds after each step of its own that frees no channel
pub held-step : (s : Content) (chans : ChanHistories) (who : Who) (n : ℕ) (step : Step) (reply : StepReply) → uses_or_checks step ≡ false → IsReplied s chans who step reply →
    (chan : ℕ) → IsHeld s chans who.number chan → IsHeld s (chans_after chans who n step reply) who.number chan
held-step s chans who n (steps.Chan object op) reply frees is chan held =
    let told = has-replied s chans who object op reply is in
    subst (λ (x : StepReply). IsHeld s (chans_after chans who n (steps.Chan object op) x) who.number chan) told.tells
    (held-after s chans who n object chan op told.reply held (λ same. not-free object op frees))
held-step s chans who n step reply frees is chan held = held

-- what a test says of one attempt
pub only-one : (test : Step → Bool) (only : Step) (k : ℕ) (step : Step) → test only ≡ false → slice_get (only ∷ []) k ≡ Some step → test step ≡ false
only-one test only k step fails is = subst (λ (x : Step). test x ≡ false) (slice_get-one only step k is) fails

of-one : (only : Step) (k : ℕ) (step : Step) → uses_or_checks only ≡ false → slice_get (only ∷ []) k ≡ Some step → uses_or_checks step ≡ false
of-one only k step calm is = only-one uses_or_checks only k step calm is

open-calm : (waiting : Waiting) (waits : Bool) → uses_or_checks (open_step waiting waits) ≡ false
open-calm (waitings.Take object) waits = refl
open-calm waiting waits = refl

end-calm : (waiting : Waiting) (place : ℕ) → uses_or_checks (end_step waiting place) ≡ false
end-calm (waitings.Take object) place = refl
end-calm waiting place = refl

quit-calm : (waiting : Waiting) (place : ℕ) → uses_or_checks (quit_step waiting place) ≡ false
quit-calm (waitings.Take object) place = refl
quit-calm waiting place = refl

closing-calm : (closing : Closing) (place : ℕ) → uses_or_checks (closing_step closing place) ≡ false
closing-calm closings.Cancel place = refl
closing-calm closing place = refl

first-calm : (waiting : Waiting) (timeout : Timeout) → uses_or_checks (first_step waiting timeout) ≡ false
first-calm waiting No = open-calm waiting false
first-calm waiting Forever = open-calm waiting true
first-calm waiting (Ticks ticks) = refl

pub wait-calm : (waiting : Waiting) (timeout : Timeout) (stage : Stage) (k : ℕ) (step : Step) → slice_get (wait_attempts waiting timeout stage) k ≡ Some step → uses_or_checks step ≡ false
wait-calm waiting timeout stages.Start k step is = of-one (first_step waiting timeout) k step (first-calm waiting timeout) is
wait-calm waiting timeout (stages.Alarmed moment) k step is = of-one (open_step waiting true) k step (open-calm waiting true) is
wait-calm waiting timeout (stages.Waits place) k step is = of-one (end_step waiting place) k step (end-calm waiting place) is
wait-calm waiting timeout (stages.WaitsUntil place moment) zero step is = of-one (end_step waiting place) zero step (end-calm waiting place) is
wait-calm waiting timeout (stages.WaitsUntil place moment) (suc k) step is = of-one (steps.Clock (clock_ops.AlarmEnd moment)) k step refl is
wait-calm waiting timeout (stages.Quits place) k step is = of-one (quit_step waiting place) k step (quit-calm waiting place) is
wait-calm waiting timeout stage k step is = absurd (cc)

-- the steps of a poll are at semaphores, message queues and signals
ask-calm : (registers : Bool) (event : Event) (step : Step) → Unit {0} → ask_step registers event ≡ Some step → uses_or_checks step ≡ false
ask-calm registers events.Ignore step any is = absurd (cc)
ask-calm registers (events.Sem sem) step any is = cc
ask-calm registers (events.Msgq queue) step any is = cc
ask-calm registers (events.Sig signal) step any is = cc

watch-calm : (event : Event) (mark : Mark) (step : Step) → Unit {0} → watch_step event mark ≡ Some step → uses_or_checks step ≡ false
watch-calm (events.Sem sem) (Armed place) step any is = cc
watch-calm (events.Msgq queue) (Armed place) step any is = cc
watch-calm (events.Sig signal) mark step any is = cc
watch-calm event mark step any is = absurd (cc)

drop-calm : (event : Event) (mark : Mark) (step : Step) → Unit {0} → drop_step event mark ≡ Some step → uses_or_checks step ≡ false
drop-calm (events.Sem sem) (Armed place) step any is = cc
drop-calm (events.Msgq queue) (Armed place) step any is = cc
drop-calm event mark step any is = absurd (cc)

-- a plan that uses a channel
abbrev pub is_channel : Plan → Bool
is_channel (plans.Channel chan using_ timeout) = true
is_channel plan = false

-- the steps that a plan is made of use no channel and are no checks
is_calm : Plan → Bool
is_calm (plans.One step) = not (uses_or_checks step)
is_calm (plans.Pair opening closing) = not (uses_or_checks opening)
is_calm (plans.Twice first second) = not (uses_or_checks first) && not (uses_or_checks second)
is_calm plan = true

plan_of-calm : (decls : List Decl) (call : Call) → is_calm (plan_of decls call) ≡ true
unfolding is_calm
plan_of-calm decls (calls.Tick ticks) = refl
plan_of-calm decls call = refl

not-so : (b : Bool) → not b ≡ true → b ≡ false
not-so true is = absurd (cc)
not-so false is = refl

plan-calm : (plan : Plan) (stage : Stage) (k : ℕ) (step : Step) → is_channel plan ≡ false → is_calm plan ≡ true → slice_get (plan_attempts plan stage) k ≡ Some step →
    uses_or_checks step ≡ false
unfolding is_calm
plan-calm (plans.One first) stages.Start k step other calm is = of-one first k step (not-so (uses_or_checks first) calm) is
plan-calm (plans.One first) stage k step other calm is = absurd (cc)
plan-calm (plans.Pair opening closing) stages.Start k step other calm is = of-one opening k step (not-so (uses_or_checks opening) calm) is
plan-calm (plans.Pair opening closing) (stages.Waits place) k step other calm is = of-one (closing_step closing place) k step (closing-calm closing place) is
plan-calm (plans.Pair opening closing) stage k step other calm is = absurd (cc)
plan-calm (plans.Twice first second) stages.Start k step other calm is =
    of-one first k step (not-so (uses_or_checks first) (and_parts (not (uses_or_checks first)) (not (uses_or_checks second)) calm).0) is
plan-calm (plans.Twice first second) stages.Halfway k step other calm is =
    of-one second k step (not-so (uses_or_checks second) (and_parts (not (uses_or_checks first)) (not (uses_or_checks second)) calm).1) is
plan-calm (plans.Twice first second) stage k step other calm is = absurd (cc)
plan-calm (plans.Wait waiting timeout) stage k step other calm is = wait-calm waiting timeout stage k step is
plan-calm (plans.Poll timeout list) stage k step other calm is =
    let P : Step → Type 0 = λ x. uses_or_checks x ≡ false in
    All-at P (poll_attempts timeout list stage) k step (poll-all timeout list stage) is
  where
    every : (list : List Event) → All (λ (event : Event). Unit {0}) list
    every [] = All-nil (λ (event : Event). Unit {0})
    every (event ∷ more) = All-cons (λ (event : Event). Unit {0}) event more tt (every more)

    poll-all : (timeout : Timeout) (list : List Event) (stage : Stage) → All (λ (x : Step). uses_or_checks x ≡ false) (poll_attempts timeout list stage)
    poll-all timeout list stage = poll_attempts-each (λ x. uses_or_checks x ≡ false) (λ event. Unit {0}) ask-calm watch-calm drop-calm (λ op. refl) timeout list stage (every list)
plan-calm (plans.Channel chan using_ timeout) stage k step other calm is = absurd (cc)

-- A reply by which no script is entered.

-- the call goes on at such a stage, or is answered
abbrev pub GoesWith : (Stage → Type 0) → (Word → Answer → Type 0) → Progress → Type 0
GoesWith P Q (Goes stage) = P stage
GoesWith P Q (Answers word answer) = Q word answer
GoesWith P Q (Enters owner stage) = ⊥

abbrev pub EntersNone : Progress → Type 0
EntersNone progress = GoesWith (λ stage. Unit {0}) (λ word answer. Unit {0}) progress

-- a stage of a call that has its channel
abbrev pub is_with_channel : Stage → Bool
is_with_channel stages.Holds = true
is_with_channel (stages.Visits left full) = true
is_with_channel (stages.Reads message) = true
is_with_channel stage = false

-- what a step answers its call is no oops
pub no-oops : (reply : StepReply) → is_oops (answer_of reply) ≡ false
no-oops (step_replies.Work (work_replies.Sub submitted) place) = by submitted where
  by : (submitted : Submitted) → is_oops (submission_answer submitted) ≡ false
  by submissions.Already = refl
  by (submissions.Fresh admission queue) = refl
  by (submissions.Rerun admission queue) = refl
  by (submissions.Refused errno) = refl
no-oops (step_replies.Work reply place) = refl
no-oops (step_replies.Table table_replies.Already place) = refl
no-oops (step_replies.Table reply place) = refl
no-oops (step_replies.Sem object sem_replies.Busy place) = refl
no-oops (step_replies.Sem object reply place) = refl
no-oops (step_replies.Msgq object msgq_replies.NoMsg place) = refl
no-oops (step_replies.Msgq object reply place) = refl
no-oops (step_replies.Chan object chan_replies.Busy place) = refl
no-oops (step_replies.Chan object reply place) = refl
no-oops (step_replies.Obs object obs_replies.NoMsg place) = refl
no-oops (step_replies.Obs object reply place) = refl
no-oops reply = refl

no-oops-poll : (marks : List Mark) → is_oops (poll_answer marks) ≡ false
no-oops-poll marks = by (list_any is_ready marks) where
  by : (b : Bool) → is_oops (cond b (answers.Ready (ready_from 0 marks)) (answers.Refused Again)) ≡ false
  by true = refl
  by false = refl

module _ (P : Stage → Type 0) (Q : Word → Answer → Type 0) (plain : (stage : Stage) → is_with_channel stage ≡ false → P stage) (word : Word)
    (answered : (answer : Answer) → is_oops answer ≡ false → Q word answer) where
  opening-goes : (reply : StepReply) → GoesWith P Q (opening_progress word reply)
  opening-goes (step_replies.Work work_replies.Wait place) = plain (stages.Waits place) refl
  opening-goes (step_replies.Work (work_replies.WaitFor admission) place) = plain (stages.Waits place) refl
  opening-goes (step_replies.Sem object sem_replies.Wait place) = plain (stages.Waits place) refl
  opening-goes (step_replies.Msgq object msgq_replies.Wait place) = plain (stages.Waits place) refl
  opening-goes (step_replies.Chan object chan_replies.Wait place) = plain (stages.Waits place) refl
  opening-goes (step_replies.Obs object obs_replies.Wait place) = plain (stages.Waits place) refl
  opening-goes reply = answered (answer_of reply) (no-oops reply)

  until-goes : (moment : ℕ) (progress : Progress) → GoesWith P Q progress → GoesWith P Q (with_alarm moment progress)
  until-goes moment (Goes (stages.Waits place)) goes = plain (stages.WaitsUntil place moment) refl
  until-goes moment progress goes = goes

  pub wait-goes : (stage : Stage) (reply : StepReply) → GoesWith P Q (wait_progress word stage reply)
  wait-goes stages.Start (step_replies.Clock (clock_replies.At moment) place) = plain (stages.Alarmed moment) refl
  wait-goes stages.Start reply = opening-goes reply
  wait-goes (stages.Alarmed moment) reply = until-goes moment (opening_progress word reply) (opening-goes reply)
  wait-goes (stages.WaitsUntil place moment) (step_replies.Clock reply at) = plain (stages.Quits place) refl
  wait-goes stage reply = answered (answer_of reply) (no-oops reply)

  poll_goes-with : (timeout : Timeout) (list : List Event) (alarm : Alarm) (marks : List Mark) → GoesWith P Q (poll_goes word timeout list alarm marks)
  poll_goes-with timeout list alarm marks =
      elim (is_answered timeout list alarm marks) as (λ b. GoesWith P Q (cond b (Answers word (poll_answer marks)) (Goes (stages.Polls alarm marks))))
      [ true ↦ answered (poll_answer marks) (no-oops-poll marks) | false ↦ plain (stages.Polls alarm marks) refl ]

  poll-goes : (timeout : Timeout) (list : List Event) (stage : Stage) (made : Step) (reply : StepReply) → P stage → GoesWith P Q (poll_progress word timeout list stage made reply)
  poll-goes timeout list stages.Start made (step_replies.Clock (clock_replies.At moment) place) here = plain (stages.Polls (alarms.Due moment) fresh) refl
  poll-goes timeout list stages.Start made reply here =
      poll_goes-with timeout list (alarm_after alarms.Unset reply) (marked fresh (event_of list alarms.Unset fresh made) (mark_of reply))
  poll-goes timeout list (stages.Polls alarm marks) made reply here =
      poll_goes-with timeout list (alarm_after alarm reply) (marked marks (event_of list alarm marks made) (mark_of reply))
  poll-goes timeout list stage made reply here = here

  pub plan-goes : (plan : Plan) (stage : Stage) (made : Step) (reply : StepReply) → is_channel plan ≡ false → P stage → GoesWith P Q (plan_progress word plan stage made reply)
  plan-goes (plans.One step) stage made reply other here = answered (answer_of reply) (no-oops reply)
  plan-goes (plans.Pair opening closing) stages.Start made reply other here = opening-goes reply
  plan-goes (plans.Pair opening closing) stage made reply other here = answered (answer_of reply) (no-oops reply)
  plan-goes (plans.Twice first second) stages.Start made reply other here = plain stages.Halfway refl
  plan-goes (plans.Twice first second) stage made reply other here = answered (answer_of reply) (no-oops reply)
  plan-goes (plans.Wait waiting timeout) stage made reply other here = wait-goes stage reply
  plan-goes (plans.Poll timeout list) stage made reply other here = poll-goes timeout list stage made reply here
  plan-goes (plans.Channel chan using_ timeout) stage made reply other here = absurd (cc)

pub wait-plain : (word : Word) (stage : Stage) (reply : StepReply) → EntersNone (wait_progress word stage reply)
wait-plain word = wait-goes (λ stage. Unit {0}) (λ word answer. Unit {0}) (λ stage is. tt) word (λ answer is. tt)

pub plan-plain : (word : Word) (plan : Plan) (stage : Stage) (made : Step) (reply : StepReply) → is_channel plan ≡ false → EntersNone (plan_progress word plan stage made reply)
plan-plain word plan stage made reply other = plan-goes (λ stage. Unit {0}) (λ word answer. Unit {0}) (λ stage is. tt) word (λ answer is. tt) plan stage made reply other tt

-- the attempts of a call that uses no channel of its own are no such steps
pub call-calm : (decls : List Decl) (call : Call) (stage : Stage) (k : ℕ) (step : Step) → is_channel (plan_of decls call) ≡ false → slice_get (plan_attempts (plan_of decls call) stage) k ≡ Some step →
    uses_or_checks step ≡ false
call-calm decls call stage k step other there = plan-calm (plan_of decls call) stage k step other (plan_of-calm decls call) there

-- such a call holds no channel and waits for none
plan-none : (plan : Plan) (stage : Stage) → is_channel plan ≡ false → (plan_got plan stage ≡ None) × (plan_waits plan stage ≡ None)
plan-none (plans.Channel chan using_ timeout) stage other = absurd (cc)
plan-none plan stage other = (refl, refl)

-- a step of such a call keeps what the open scripts hold
pub other-kept : (s : Content) (chans : ChanHistories) (who : Who) (n : ℕ) (below : List ℕ) (call : Call) (word : Word) (stage : Stage) (k : ℕ) (step : Step) (reply : StepReply) →
    is_channel (plan_of s.decls call) ≡ false → slice_get (plan_attempts (plan_of s.decls call) stage) k ≡ Some step →
    IsKept s chans who.number below (plan_got (plan_of s.decls call) stage) (plan_waits (plan_of s.decls call) stage) → IsReplied s chans who step reply →
    IsKeptBy s (chans_after chans who n step reply) who.number below (plan_got (plan_of s.decls call)) (plan_waits (plan_of s.decls call))
    (plan_progress word (plan_of s.decls call) stage step reply)
other-kept s chans who n below call word stage k step reply other there was is =
    let calm = call-calm s.decls call stage k step other there in
    by_progress (plan_progress word (plan_of s.decls call) stage step reply) (plan-plain word (plan_of s.decls call) stage step reply other)
    (kept-quiet s who.number below chans _ _ _ was (λ chan among held. held-step s chans who n step reply calm is chan held))
  where
    by_progress : (progress : Progress) → EntersNone progress → IsKept s (chans_after chans who n step reply) who.number below None None →
        IsKeptBy s (chans_after chans who n step reply) who.number below (plan_got (plan_of s.decls call)) (plan_waits (plan_of s.decls call)) progress
    by_progress (Goes stage') plain kept =
        let none = plan-none (plan_of s.decls call) stage' other in
        subst (λ (holds : Option ℕ). IsKept s (chans_after chans who n step reply) who.number below holds (plan_waits (plan_of s.decls call) stage')) (sym-of none.0)
        (subst (λ (waits : Option (ℕ × ℕ)). IsKept s (chans_after chans who n step reply) who.number below None waits) (sym-of none.1) kept)
      where
        sym-of : {A : Type 0} {a b : A} → a ≡ b → b ≡ a
        sym-of same = cc
    by_progress (Answers word' answer) plain kept = kept
    by_progress (Enters owner stage') plain kept = absurd plain

-- of a call that uses a channel, scripts are entered only while it holds that
pub channel-plain : (word : Word) (stage : Stage) (reply : StepReply) → ((left : List ℕ) (full : Bool) → stage ≡ stages.Visits left full → ⊥) → EntersNone (channel_progress word stage reply)
channel-plain word (stages.Visits left full) reply other = absurd (other left full refl)
channel-plain word stages.Holds (step_replies.Chan chan (chan_replies.Observers told) place) other = tt
channel-plain word stages.Holds (step_replies.Chan chan (chan_replies.Bytes message) place) other = tt
channel-plain word stages.Holds reply other = tt
channel-plain word (stages.Reads message) reply other = tt
channel-plain word stage (step_replies.Chan chan chan_replies.Got place) other = tt
channel-plain word stage reply other = wait-plain word stage reply
