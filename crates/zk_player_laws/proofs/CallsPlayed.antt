-- Each call that a player answers, but those that use a channel, has its steps side by side among the player's, from where the player
-- stood at its beginning.
use Rattle.std.proofs.Common.{◌≡◌, ◌⊎◌, inl, inr, ℕ, ◌+◌, ◌&&◌, ◌||◌, Bool, true, false, cond, nat_lt, Option, Some, None, is_some, List, [], ◌∷◌, ◌++◌, length, slice_get, option_map, All, refl, sym, ap, subst, ◌∙◌, append-nil, append_assoc, arith}
use Rattle.std.proofs.lemmas.List.{length_push, length-append}
use Rattle.std.proofs.lemmas.List.Elements.{All-nil, All-push, All-weaker}
use Rattle.std.proofs.lemmas.Option.{option_and_then_some}
use Rattle.zk_base.proofs.Lists.{slice_get-one}
use Rattle.zk_line.specs.declared.types.Decl.{Decl}
use Rattle.zk_line.specs.declared.types.Call.{Call}
use Rattle.zk_line.specs.declared.events.Event.{Event}
use Rattle.zk_line.specs.Calls.{word_of}
use Rattle.zk_line.specs.Objects.{places, is_item}
use Rattle.zk_scenario.specs.Content.{Content}
use Rattle.zk_scenario.specs.Players.{players, calls_of}
use Rattle.zk_model_bus.specs.declared.channel.ChanOp.TheVariants as chan_ops
use Rattle.zk_model_bus.specs.declared.channel.ChanReply.TheVariants as chan_replies
use Rattle.zk_model_bus.specs.declared.observer.ObsReply.TheVariants as obs_replies
use Rattle.zk_model_bus.specs.declared.table.OopsWhy.{OopsWhy}
use Rattle.zk_model_wait.specs.declared.clock.ClockReply.TheVariants as clock_replies
use Rattle.zk_model_wait.specs.declared.msgq.MsgqReply.TheVariants as msgq_replies
use Rattle.zk_model_wait.specs.declared.sem.SemReply.TheVariants as sem_replies
use Rattle.zk_model_work.specs.declared.ops.WorkReply.TheVariants as replies
use Rattle.zk_words.specs.declared.timeout.Timeout.{Timeout}
use Rattle.zk_words.specs.declared.word.Word.{Word}
use Rattle.zk_worker.specs.declared.answers.Answer.{Answer}
use Rattle.zk_worker.specs.declared.answers.Answer.TheVariants.{Oops}
use Rattle.zk_worker.specs.declared.answers.Answered.{Answered}
use Rattle.zk_worker.specs.declared.checks.Check.{Check}
use Rattle.zk_worker.specs.declared.frames.Alarm.{Alarm}
use Rattle.zk_worker.specs.declared.frames.Alarm.TheVariants.{Unset}
use Rattle.zk_worker.specs.declared.frames.Frame.{Frame}
use Rattle.zk_worker.specs.declared.frames.TheConstants.{MOST_FRAMES}
use Rattle.zk_worker.specs.declared.frames.Mark.{Mark}
use Rattle.zk_worker.specs.declared.frames.Plan.{Plan}
use Rattle.zk_worker.specs.declared.frames.Plan.TheVariants.{One, Pair, Twice, Wait, Poll, Channel}
use Rattle.zk_worker.specs.declared.frames.Progress.{Progress}
use Rattle.zk_worker.specs.declared.frames.Progress.TheVariants.{Goes, Answers, Enters}
use Rattle.zk_worker.specs.declared.frames.Role.{Role}
use Rattle.zk_worker.specs.declared.frames.Role.TheVariants.{Script, Worker}
use Rattle.zk_worker.specs.declared.frames.Using.{Using}
use Rattle.zk_worker.specs.declared.frames.Using.TheVariants as usings
use Rattle.zk_worker.specs.declared.frames.Stage.{Stage}
use Rattle.zk_worker.specs.declared.frames.Stage.TheVariants.{Start, Polls, Waits, Alarmed, WaitsUntil}
use Rattle.zk_worker.specs.declared.frames.Stage.TheVariants as stages
use Rattle.zk_worker.specs.declared.steps.Step.{Step}
use Rattle.zk_worker.specs.declared.steps.Step.TheVariants as steps
use Rattle.zk_worker.specs.declared.steps.StepReply.{StepReply}
use Rattle.zk_worker.specs.declared.steps.StepReply.TheVariants as step_replies
use Rattle.zk_player_laws.specs.CallLaws.{is_in_use, IsUseOf}
use Rattle.zk_worker.specs.Calls.{plan_of, plan_attempts, plan_progress}
use Rattle.zk_player_laws.specs.CheckLaws.{IsLed, BeginsCall}
use Rattle.zk_worker.specs.Checks.{is_oops, oops_in, top_check}
use Rattle.zk_worker.specs.Follows.{StepMade, IsPlayed}
use Rattle.zk_worker.specs.Places.{PlayerPlace}
use Rattle.zk_worker.specs.Polls.{poll_answer, is_answered, poll_goes, poll_progress, event_of, marked, mark_of, alarm_after, fresh}
use Rattle.zk_worker.specs.Publishes.{rest_of, use_step, visit_step, channel_attempts, holds_progress, visit_progress, asking_progress, channel_progress}
use Rattle.zk_worker.specs.Ranges.{is_start}
use Rattle.zk_player_laws.specs.VisitLaws.{used_chan, is_publish, is_read}
use Rattle.zk_worker.specs.Waits.{opening_progress, with_alarm, wait_progress}
use Rattle.zk_worker.specs.Protocol.{IsAhead, after, checked, moved, call_attempts, role_attempts, frames_attempts, call_progress, worker_progress, run_progress, role_progress, is_over, settled, entered, first_frame, frames_progress, frames_after, answers_after, spot_of, starting, start_at, role_at}
use Rattle.zk_worker.proofs.CheckedSteps.{IsCheck, IsOwn, turn, check-of-top, check-starts}
use Rattle.zk_worker.proofs.Following.{played-more}
use Rattle.zk_player_laws.proofs.ChannelsFreed.{channel-word}
use Rattle.zk_player_laws.proofs.OtherCalls.{is_channel, is_with_channel, EntersNone, plan-plain, channel-plain}

-- where a step answers a call, it answers it as the call that it is
abbrev pub OfCall : Word → Progress → Type 0
OfCall word (Answers answered answer) = answered ≡ word
OfCall word progress = Unit {0}

opening-call : (word : Word) (reply : StepReply) → OfCall word (opening_progress word reply)
opening-call word (step_replies.Work replies.Wait place) = tt
opening-call word (step_replies.Work (replies.WaitFor admission) place) = tt
opening-call word (step_replies.Sem object sem_replies.Wait place) = tt
opening-call word (step_replies.Msgq object msgq_replies.Wait place) = tt
opening-call word (step_replies.Chan object chan_replies.Wait place) = tt
opening-call word (step_replies.Obs object obs_replies.Wait place) = tt
opening-call word reply = refl

until-call : (word : Word) (moment : ℕ) (progress : Progress) → OfCall word progress → OfCall word (with_alarm moment progress)
until-call word moment (Goes (Waits place)) is = tt
until-call word moment (Goes stage) is = tt
until-call word moment (Answers answered answer) is = is
until-call word moment (Enters owner stage) is = tt

wait-call : (word : Word) (stage : Stage) (reply : StepReply) → OfCall word (wait_progress word stage reply)
wait-call word Start (step_replies.Clock (clock_replies.At moment) place) = tt
wait-call word Start reply = opening-call word reply
wait-call word (Alarmed moment) reply = until-call word moment (opening_progress word reply) (opening-call word reply)
wait-call word (WaitsUntil place moment) (step_replies.Clock reply at) = tt
wait-call word stage reply = refl

goes-call : (word : Word) (timeout : Timeout) (events : List Event) (alarm : Alarm) (marks : List Mark) → OfCall word (poll_goes word timeout events alarm marks)
goes-call word timeout events alarm marks = by (is_answered timeout events alarm marks) where
  by : (b : Bool) → OfCall word (cond b (Answers word (poll_answer marks)) (Goes (Polls alarm marks)))
  by true = refl
  by false = tt

poll-call : (word : Word) (timeout : Timeout) (events : List Event) (stage : Stage) (made : Step) (reply : StepReply) → OfCall word (poll_progress word timeout events stage made reply)
poll-call word timeout events Start made (step_replies.Clock (clock_replies.At moment) place) = tt
poll-call word timeout events Start made reply = goes-call word timeout events (alarm_after Unset reply) (marked fresh (event_of events Unset fresh made) (mark_of reply))
poll-call word timeout events (Polls alarm marks) made reply = goes-call word timeout events (alarm_after alarm reply) (marked marks (event_of events alarm marks made) (mark_of reply))
poll-call word timeout events stage made reply = tt

visit-call : (word : Word) (left : List ℕ) (full : Bool) (reply : StepReply) → OfCall word (visit_progress word left full reply)
visit-call word left full (step_replies.Obs observer obs_replies.Run place) = tt
visit-call word left full (step_replies.Obs observer obs_replies.Full place) = tt
visit-call word left full (step_replies.Obs observer reply place) = tt
visit-call word left full reply = refl

holds-call : (word : Word) (reply : StepReply) → OfCall word (holds_progress word reply)
holds-call word (step_replies.Chan chan (chan_replies.Observers told) place) = tt
holds-call word (step_replies.Chan chan (chan_replies.Bytes message) place) = tt
holds-call word reply = refl

asking-call : (word : Word) (stage : Stage) (reply : StepReply) → OfCall word (asking_progress word stage reply)
asking-call word stage (step_replies.Chan chan chan_replies.Got place) = tt
asking-call word stage reply = wait-call word stage reply

channel-call : (word : Word) (stage : Stage) (reply : StepReply) → OfCall word (channel_progress word stage reply)
channel-call word stages.Holds reply = holds-call word reply
channel-call word (stages.Visits left full) reply = visit-call word left full reply
channel-call word (stages.Reads message) reply = refl
channel-call word stage reply = asking-call word stage reply

plan-call : (word : Word) (plan : Plan) (stage : Stage) (made : Step) (reply : StepReply) → OfCall word (plan_progress word plan stage made reply)
plan-call word (One step) stage made reply = refl
plan-call word (Pair opening closing) Start made reply = opening-call word reply
plan-call word (Pair opening closing) stage made reply = refl
plan-call word (Twice first second) Start made reply = tt
plan-call word (Twice first second) stage made reply = refl
plan-call word (Wait waiting timeout) stage made reply = wait-call word stage reply
plan-call word (Poll timeout events) stage made reply = poll-call word timeout events stage made reply
plan-call word (Channel chan using timeout) stage made reply = channel-call word stage reply

-- The steps of a call.

-- at this stage of a call the step is one of its next attempts, and its reply leads to this
pub record Leads (word : Word) (plan : Plan) (stage : Stage) (made : StepMade) (progress : Progress) : Type 0 where
  pub index : ℕ
  pub ahead : slice_get (plan_attempts plan stage) index ≡ Some made.0
  pub comes : plan_progress word plan stage made.0 made.1 ≡ progress

-- these steps lead it from one stage to another
abbrev pub LeadsOn : Word → Plan → Stage → List StepMade → Stage → Type 0
LeadsOn word plan stage [] end = stage ≡ end
LeadsOn word plan stage (made ∷ more) end = (next : Stage) × Leads word plan stage made (Goes next) × LeadsOn word plan next more end

-- these are all its steps, and it has its answer
pub record IsDone (word : Word) (plan : Plan) (play : List StepMade) (answer : Answer) : Type 0 where
  pub front : List StepMade
  pub last : StepMade
  pub stage : Stage
  pub whole : play ≡ front ++ last ∷ []
  pub led : LeadsOn word plan Start front stage
  pub asks : is_with_channel stage ≡ false
  pub answered : Leads word plan stage last (Answers word answer)

-- an answered call that hadn't a channel
pub record IsPlayOf (s : Content) (number : ℕ) (made : List StepMade) (a : Answered) : Type 0 where
  pub owner : ℕ
  pub next : ℕ
  pub call : Call
  pub below : List Frame
  pub is_word : a.word ≡ word_of call
  pub before : List StepMade
  pub play : List StepMade
  pub rest : List StepMade
  pub whole : made ≡ before ++ (play ++ rest)
  pub last : a.step + 1 ≡ length before + length play
  pub begins : BeginsCall s number before owner next call below
  pub done : IsDone (word_of call) (plan_of s.decls call) play a.answer

-- What is open.

-- the steps since the player stood at the beginning of a call led it to its stage
pub record PlayTo (s : Content) (number : ℕ) (made : List StepMade) (owner next : ℕ) (below : List Frame) (call : Call) (stage : Stage) : Type 0 where
  pub before : List StepMade
  pub play : List StepMade
  pub whole : made ≡ before ++ play
  pub begins : BeginsCall s number before owner next call below
  pub led : LeadsOn (word_of call) (plan_of s.decls call) Start play stage

-- so it is of an open script at a call that hasn't a channel
abbrev pub PlaysOn : Content → ℕ → List StepMade → List Frame → Role → ℕ → Stage → Type 0
PlaysOn s number made below (Worker queue) next stage = Unit {0}
PlaysOn s number made below (Script owner) next stage =
    (call : Call) → slice_get (calls_of s.scripts owner) next ≡ Some call → is_with_channel stage ≡ false → PlayTo s number made owner next below call stage

-- what isn't at such a call: the run of a worker, and a script at a call that has a channel
abbrev pub IsAway : Role → Stage → Type 0
IsAway (Worker queue) stage = Unit {0}
IsAway (Script owner) stage = is_with_channel stage ≡ true

abbrev pub AreAway : List Frame → Type 0
AreAway [] = Unit {0}
AreAway (frame ∷ below) = IsAway frame.role frame.stage × AreAway below

-- and behind the innermost nothing that is open is at such a call
abbrev pub AreOpen : Content → ℕ → List StepMade → List Frame → Type 0
AreOpen s number made [] = Unit {0}
AreOpen s number made (frame ∷ below) = PlaysOn s number made below frame.role frame.next frame.stage × AreAway below

-- so it is too where the innermost has made no step of its call
abbrev AreFresh : Content → List Frame → Type 0
AreFresh s [] = Unit {0}
AreFresh s (frame ∷ below) = (is_start frame.stage ≡ true ⊎ IsAway frame.role frame.stage) × AreAway below

none-fresh : (s : Content) (frames : List Frame) → AreAway frames → AreFresh s frames
none-fresh s [] none = tt
none-fresh s (frame ∷ below) none = (inr none.0, none.1)

settled-fresh : (s : Content) (frames : List Frame) → AreFresh s frames → AreFresh s (settled s frames)
settled-fresh s [] are = tt
settled-fresh s (frame ∷ below) are = by (is_over s frame.role frame.next) (settled-fresh s below (none-fresh s below are.1)) where
  by : (b : Bool) → AreFresh s (settled s below) → AreFresh s (cond b (settled s below) (frame ∷ below))
  by true rest = rest
  by false rest = are

fresh-open : (s : Content) (number : ℕ) (made : List StepMade) (now : PlayerPlace) (frames : List Frame) → IsLed s number made now → now.frames ≡ frames → AreFresh s frames → AreOpen s number made frames
fresh-open s number made now [] led same fresh = tt
fresh-open s number made now (frame ∷ below) led same fresh = (by frame.role frame.stage fresh.0 refl refl, fresh.1) where
  stood : (owner : ℕ) (stage : Stage) → frame.role ≡ Script owner → frame.stage ≡ stage → is_start stage ≡ true → now.frames ≡ record { role = Script owner; next = frame.next; stage = Start } ∷ below
  stood owner Start role at is =
      same ∙ ap (λ (r : Role). record { role = r; next = frame.next; stage = frame.stage } ∷ below) role ∙ ap (λ (t : Stage). record { role = Script owner; next = frame.next; stage = t } ∷ below) at
  stood owner stage role at is = absurd (cc)

  start : (stage : Stage) → is_start stage ≡ true → stage ≡ Start
  start Start is = refl
  start stage is = absurd (cc)

  by : (role : Role) (stage : Stage) → is_start stage ≡ true ⊎ IsAway role stage → frame.role ≡ role → frame.stage ≡ stage → PlaysOn s number made below role frame.next stage
  by (Worker queue) stage fresh role at = tt
  by (Script owner) stage (inl is) role at = λ call there asks. record {
    before = made;
    play = [];
    whole = sym (append-nil made);
    begins = record { at = now; led = led; is_call = there; stood = stood owner stage role at is };
    led = sym (start stage is);
  }
  by (Script owner) stage (inr away) role at = λ call there asks. absurd (cc)

led-on : (word : Word) (plan : Plan) (stage : Stage) (play : List StepMade) (middle : Stage) (made : StepMade) (end : Stage) → LeadsOn word plan stage play middle → Leads word plan middle made (Goes end) →
    LeadsOn word plan stage (play ++ made ∷ []) end
led-on word plan stage [] middle made end led last = (end, subst (λ (s : Stage). Leads word plan s made (Goes end)) (sym led) last, refl)
led-on word plan stage (x ∷ play) middle made end led last = (led.0, led.1, led-on word plan led.0 play middle made end led.2 last)

-- A step.

-- a step of a script is one of its call
call-leads : (s : Content) (owner next : ℕ) (stage : Stage) (made : StepMade) (index : ℕ) (progress : Progress) (call : Call) → slice_get (calls_of s.scripts owner) next ≡ Some call →
    slice_get (role_attempts s (Script owner) next stage) index ≡ Some made.0 → role_progress s (Script owner) next stage made.0 made.1 ≡ progress →
    Leads (word_of call) (plan_of s.decls call) stage made progress
call-leads s owner next stage made index progress call there ahead comes = record {
  index = index;
  ahead = ap (λ (c : Option Call). slice_get (call_attempts s.decls c stage) index) (sym there) ∙ ahead;
  comes = ap (λ (c : Option Call). call_progress s.decls c stage made.0 made.1) (sym there) ∙ comes;
}

-- what a script's step does, is what it does to its call
pub script-call : (s : Content) (stage : Stage) (made : StepMade) (index : ℕ) (call : Option Call) → slice_get (call_attempts s.decls call stage) index ≡ Some made.0 →
    (c : Call) × (call ≡ Some c) × OfCall (word_of c) (call_progress s.decls call stage made.0 made.1)
script-call s stage made index None ahead = absurd (cc)
script-call s stage made index (Some call) ahead = (call, refl, plan-call (word_of call) (plan_of s.decls call) stage made.0 made.1)

run-answers : (owner : Option ℕ) (word : Word) (answer : Answer) → run_progress owner ≡ Answers word answer → ⊥
run-answers None word answer is = cc
run-answers (Some owner) word answer is = cc

-- a worker answers no call
pub worker-answers : (decls : List Decl) (stage : Stage) (reply : StepReply) (word : Word) (answer : Answer) → worker_progress decls stage reply ≡ Answers word answer → ⊥
worker-answers decls Start (step_replies.Work (replies.Run item admission) place) word answer is = run-answers (slice_get (places is_item decls) item) word answer is
worker-answers decls stage reply word answer is = cc

-- Calls that have a channel.

-- no other plan has attempts at a stage of those
pub plain-stage : (plan : Plan) (stage : Stage) (index : ℕ) (step : Step) → is_channel plan ≡ false → slice_get (plan_attempts plan stage) index ≡ Some step → is_with_channel stage ≡ false
plain-stage plan stages.Holds index step other ahead = absurd (by plan other ahead) where
  by : (plan : Plan) → is_channel plan ≡ false → slice_get (plan_attempts plan stages.Holds) index ≡ Some step → ⊥
  by (Channel chan using timeout) other ahead = cc
  by (One first) other ahead = cc
  by (Pair opening closing) other ahead = cc
  by (Twice first second) other ahead = cc
  by (Wait waiting timeout) other ahead = cc
  by (Poll timeout events) other ahead = cc
plain-stage plan (stages.Visits left full) index step other ahead = absurd (by plan other ahead) where
  by : (plan : Plan) → is_channel plan ≡ false → slice_get (plan_attempts plan (stages.Visits left full)) index ≡ Some step → ⊥
  by (Channel chan using timeout) other ahead = cc
  by (One first) other ahead = cc
  by (Pair opening closing) other ahead = cc
  by (Twice first second) other ahead = cc
  by (Wait waiting timeout) other ahead = cc
  by (Poll timeout events) other ahead = cc
plain-stage plan (stages.Reads message) index step other ahead = absurd (by plan other ahead) where
  by : (plan : Plan) → is_channel plan ≡ false → slice_get (plan_attempts plan (stages.Reads message)) index ≡ Some step → ⊥
  by (Channel chan using timeout) other ahead = cc
  by (One first) other ahead = cc
  by (Pair opening closing) other ahead = cc
  by (Twice first second) other ahead = cc
  by (Wait waiting timeout) other ahead = cc
  by (Poll timeout events) other ahead = cc
plain-stage plan stage index step other ahead = refl

-- who has its channel has it until it is answered
visits-stay : (word : Word) (left : List ℕ) (full : Bool) (reply : StepReply) (end : Stage) → visit_progress word left full reply ≡ Goes end → is_with_channel end ≡ true
visits-stay word left full (step_replies.Obs observer obs_replies.Run place) end comes = absurd (cc)
visits-stay word left full (step_replies.Obs observer obs_replies.Full place) end comes = let same : stages.Visits (rest_of left) true ≡ end = cc in ap is_with_channel (sym same)
visits-stay word left full (step_replies.Obs observer reply place) end comes = let same : stages.Visits (rest_of left) full ≡ end = cc in ap is_with_channel (sym same)
visits-stay word left full reply end comes = absurd (cc)

holds-stay : (word : Word) (reply : StepReply) (end : Stage) → holds_progress word reply ≡ Goes end → is_with_channel end ≡ true
holds-stay word (step_replies.Chan chan (chan_replies.Observers told) place) end comes = let same : stages.Visits told false ≡ end = cc in ap is_with_channel (sym same)
holds-stay word (step_replies.Chan chan (chan_replies.Bytes message) place) end comes = let same : stages.Reads message ≡ end = cc in ap is_with_channel (sym same)
holds-stay word reply end comes = absurd (cc)

channel-stays : (word : Word) (stage : Stage) (reply : StepReply) (end : Stage) → channel_progress word stage reply ≡ Goes end → is_with_channel end ≡ false → is_with_channel stage ≡ false
channel-stays word stages.Holds reply end comes asks = absurd (let stays = holds-stay word reply end comes in cc)
channel-stays word (stages.Visits left full) reply end comes asks = absurd (let stays = visits-stay word left full reply end comes in cc)
channel-stays word (stages.Reads message) reply end comes asks = absurd (cc)
channel-stays word stage reply end comes asks = refl

pub plan-stays : (word : Word) (plan : Plan) (stage : Stage) (index : ℕ) (made : StepMade) (end : Stage) → slice_get (plan_attempts plan stage) index ≡ Some made.0 →
    plan_progress word plan stage made.0 made.1 ≡ Goes end → is_with_channel end ≡ false → is_with_channel stage ≡ false
plan-stays word (Channel chan using timeout) stage index made end ahead comes asks = channel-stays word stage made.1 end comes asks
plan-stays word (One first) stage index made end ahead comes asks = plain-stage (One first) stage index made.0 refl ahead
plan-stays word (Pair opening closing) stage index made end ahead comes asks = plain-stage (Pair opening closing) stage index made.0 refl ahead
plan-stays word (Twice first second) stage index made end ahead comes asks = plain-stage (Twice first second) stage index made.0 refl ahead
plan-stays word (Wait waiting timeout) stage index made end ahead comes asks = plain-stage (Wait waiting timeout) stage index made.0 refl ahead
plan-stays word (Poll timeout events) stage index made end ahead comes asks = plain-stage (Poll timeout events) stage index made.0 refl ahead

-- only such a call enters scripts, and it has its channel then
visits-enter : (word : Word) (left : List ℕ) (full : Bool) (reply : StepReply) (owner : ℕ) (end : Stage) → visit_progress word left full reply ≡ Enters owner end → is_with_channel end ≡ true
visits-enter word left full (step_replies.Obs observer obs_replies.Run place) owner end comes = let same : stages.Visits (rest_of left) full ≡ end = cc in ap is_with_channel (sym same)
visits-enter word left full (step_replies.Obs observer obs_replies.Full place) owner end comes = absurd (cc)
visits-enter word left full (step_replies.Obs observer reply place) owner end comes = absurd (cc)
visits-enter word left full reply owner end comes = absurd (cc)

channel-enters : (word : Word) (stage : Stage) (reply : StepReply) (owner : ℕ) (end : Stage) → channel_progress word stage reply ≡ Enters owner end → is_with_channel end ≡ true
channel-enters word (stages.Visits left full) reply owner end comes = visits-enter word left full reply owner end comes
channel-enters word stages.Holds reply owner end comes = absurd (subst EntersNone comes (channel-plain word stages.Holds reply (λ left full is. cc)))
channel-enters word (stages.Reads message) reply owner end comes = absurd (cc)
channel-enters word stage reply owner end comes = absurd (subst EntersNone comes (channel-plain word stage reply (λ left full is. cc)))

plan-enters : (word : Word) (plan : Plan) (stage : Stage) (made : StepMade) (owner : ℕ) (end : Stage) → plan_progress word plan stage made.0 made.1 ≡ Enters owner end → is_with_channel end ≡ true
plan-enters word (Channel chan using timeout) stage made owner end comes = channel-enters word stage made.1 owner end comes
plan-enters word (One first) stage made owner end comes = absurd (subst EntersNone comes (plan-plain word (One first) stage made.0 made.1 refl))
plan-enters word (Pair opening closing) stage made owner end comes = absurd (subst EntersNone comes (plan-plain word (Pair opening closing) stage made.0 made.1 refl))
plan-enters word (Twice first second) stage made owner end comes = absurd (subst EntersNone comes (plan-plain word (Twice first second) stage made.0 made.1 refl))
plan-enters word (Wait waiting timeout) stage made owner end comes = absurd (subst EntersNone comes (plan-plain word (Wait waiting timeout) stage made.0 made.1 refl))
plan-enters word (Poll timeout events) stage made owner end comes = absurd (subst EntersNone comes (plan-plain word (Poll timeout events) stage made.0 made.1 refl))

enters-away : (s : Content) (m : StepMade) (role : Role) (next : ℕ) (stage : Stage) (index owner : ℕ) (end : Stage) → slice_get (role_attempts s role next stage) index ≡ Some m.0 →
    role_progress s role next stage m.0 m.1 ≡ Enters owner end → IsAway role end
enters-away s m (Worker queue) next stage index owner end ahead comes = tt
enters-away s m (Script at) next stage index owner end ahead comes = by (slice_get (calls_of s.scripts at) next) refl ahead where
  by : (o : Option Call) → slice_get (calls_of s.scripts at) next ≡ o → slice_get (call_attempts s.decls o stage) index ≡ Some m.0 → is_with_channel end ≡ true
  by None there ahead = absurd (cc)
  by (Some call) there ahead = plan-enters (word_of call) (plan_of s.decls call) stage m owner end (ap (λ (c : Option Call). call_progress s.decls c stage m.0 m.1) (sym there) ∙ comes)

-- an attempt of a call that has its channel uses it
channel-uses : (chan : ℕ) (using_ : Using) (timeout : Timeout) (stage : Stage) (index : ℕ) (step : Step) → is_with_channel stage ≡ true →
    slice_get (channel_attempts chan using_ timeout stage) index ≡ Some step → is_some (used_chan step) ≡ true
channel-uses chan using_ timeout stages.Holds index step with ahead = ap (λ (x : Step). is_some (used_chan x)) (sym (slice_get-one (use_step chan using_) step index ahead)) ∙ by using_ where
  by : (u : Using) → is_some (used_chan (use_step chan u)) ≡ true
  by (usings.Publish message) = refl
  by usings.Notify = refl
  by usings.Read = refl
channel-uses chan using_ timeout (stages.Visits left full) index step with ahead = ap (λ (x : Step). is_some (used_chan x)) (sym (slice_get-one (visit_step chan left) step index ahead)) ∙ by left where
  by : (l : List ℕ) → is_some (used_chan (visit_step chan l)) ≡ true
  by [] = refl
  by (observer ∷ more) = refl
channel-uses chan using_ timeout (stages.Reads message) index step with ahead = ap (λ (x : Step). is_some (used_chan x)) (sym (slice_get-one (steps.Chan chan chan_ops.Free) step index ahead))
channel-uses chan using_ timeout stage index step with ahead = absurd (cc)

-- so an attempt at such a stage is a use by a publish, a notify or a read
pub call-uses : (decls : List Decl) (call : Call) (stage : Stage) (index : ℕ) (step : Step) → is_with_channel stage ≡ true → slice_get (plan_attempts (plan_of decls call) stage) index ≡ Some step →
    is_in_use (word_of call) step ≡ true
call-uses decls call stage index step with ahead = by (plan_of decls call) refl where
  by : (plan : Plan) → plan_of decls call ≡ plan → is_in_use (word_of call) step ≡ true
  by (Channel chan using_ timeout) same =
      let uses = channel-uses chan using_ timeout stage index step with (ap (λ (p : Plan). slice_get (plan_attempts p stage) index) (sym same) ∙ ahead) in
      both (is_publish (word_of call) || is_read (word_of call)) (is_some (used_chan step)) (channel-word decls call (ap is_channel same)) uses
    where
      both : (a b : Bool) → a ≡ true → b ≡ true → (a && b) ≡ true
      both true true first second = refl
      both true false first second = absurd (cc)
      both false b first second = absurd (cc)
  by (One first) same = absurd (let plain = plain-stage (plan_of decls call) stage index step (ap is_channel same) ahead in cc)
  by (Pair opening closing) same = absurd (let plain = plain-stage (plan_of decls call) stage index step (ap is_channel same) ahead in cc)
  by (Twice first second) same = absurd (let plain = plain-stage (plan_of decls call) stage index step (ap is_channel same) ahead in cc)
  by (Wait waiting timeout) same = absurd (let plain = plain-stage (plan_of decls call) stage index step (ap is_channel same) ahead in cc)
  by (Poll timeout events) same = absurd (let plain = plain-stage (plan_of decls call) stage index step (ap is_channel same) ahead in cc)

pub Played : Content → ℕ → List StepMade → Answered → Type 0
Played s number made a = is_oops a.answer ≡ false → IsPlayOf s number made a ⊎ IsUseOf made a

module _ (s : Content) (number : ℕ) (made : List StepMade) (m : StepMade) where
  abbrev longer : List StepMade
  longer = made ++ m ∷ []

  role-goes : (below : List Frame) (role : Role) (next : ℕ) (stage end : Stage) (index : ℕ) → PlaysOn s number made below role next stage → slice_get (role_attempts s role next stage) index ≡ Some m.0 →
      role_progress s role next stage m.0 m.1 ≡ Goes end → PlaysOn s number longer below role next end
  role-goes below (Worker queue) next stage end index plays ahead comes = tt
  role-goes below (Script owner) next stage end index plays ahead comes = λ call there asks.
      let leads = call-leads s owner next stage m index (Goes end) call there ahead comes in
      let old : PlayTo s number made owner next below call stage = plays call there (plan-stays (word_of call) (plan_of s.decls call) stage leads.index m end leads.ahead leads.comes asks) in
      record {
        before = old.before;
        play = old.play ++ m ∷ [];
        whole = ap (λ (xs : List StepMade). xs ++ m ∷ []) old.whole ∙ append_assoc old.before old.play (m ∷ []);
        begins = old.begins;
        led = led-on (word_of call) (plan_of s.decls call) Start old.play stage m end old.led leads;
      }

  role-answers : (below : List Frame) (role : Role) (next : ℕ) (stage : Stage) (index count : ℕ) (word : Word) (answer : Answer) → PlaysOn s number made below role next stage →
      slice_get (role_attempts s role next stage) index ≡ Some m.0 → role_progress s role next stage m.0 m.1 ≡ Answers word answer → count ≡ length made →
      IsPlayOf s number longer (record { step = count; word = word; answer = answer }) ⊎ IsUseOf longer (record { step = count; word = word; answer = answer })
  role-answers below (Worker queue) next stage index count word answer plays ahead comes many = absurd (worker-answers s.decls stage m.1 word answer comes)
  role-answers below (Script owner) next stage index count word answer plays ahead comes many =
      let so = script-call s stage m index (slice_get (calls_of s.scripts owner) next) ahead in
      let of : word ≡ word_of so.0 = subst (λ (p : Progress). OfCall (word_of so.0) p) comes so.2 in
      by so.0 so.1 of (call-leads s owner next stage m index (Answers word answer) so.0 so.1 ahead comes) (is_with_channel stage) refl
    where
      by : (call : Call) → slice_get (calls_of s.scripts owner) next ≡ Some call → word ≡ word_of call → Leads (word_of call) (plan_of s.decls call) stage m (Answers word answer) →
          (b : Bool) → is_with_channel stage ≡ b → IsPlayOf s number longer (record { step = count; word = word; answer = answer }) ⊎ IsUseOf longer (record { step = count; word = word; answer = answer })
      by call there of leads true with = inr (record {
        front = made;
        step = m;
        rest = [];
        whole = refl;
        last = many;
        in_use = ap (λ (w : Word). is_in_use w m.0) of ∙ call-uses s.decls call stage leads.index m.0 with leads.ahead;
      })
      by call there of leads false asks =
          let old : PlayTo s number made owner next below call stage = plays call there asks in
          let one = ap (λ (xs : List StepMade). length xs) old.whole ∙ length-append old.before old.play in
          let two = length_push old.play m in
          inl (record {
            owner = owner;
            next = next;
            call = call;
            below = below;
            is_word = of;
            before = old.before;
            play = old.play ++ m ∷ [];
            rest = [];
            whole = ap (λ (xs : List StepMade). xs ++ m ∷ []) old.whole ∙ append_assoc old.before old.play (m ∷ [])
                ∙ ap (λ (xs : List StepMade). old.before ++ xs) (sym (append-nil (old.play ++ m ∷ [])));
            last = omega (arith, one, two);
            begins = old.begins;
            done = record {
              front = old.play;
              last = m;
              stage = stage;
              whole = refl;
              led = old.led;
              asks = asks;
              answered = record { index = leads.index; ahead = leads.ahead; comes = leads.comes ∙ ap (λ (w : Word). Answers w answer) of };
            };
          })

  -- what is open after a step of the innermost script or run
  open-step : (now : PlayerPlace) (frames : List Frame) (index : ℕ) → IsLed s number longer now → now.frames ≡ frames_after s frames (frames_progress s frames m.0 m.1) → AreOpen s number made frames →
      slice_get (frames_attempts s frames) index ≡ Some m.0 → AreOpen s number longer (frames_after s frames (frames_progress s frames m.0 m.1))
  open-step now [] index led same are ahead = absurd (cc)
  open-step now (frame ∷ below) index led same are ahead = by (role_progress s frame.role frame.next frame.stage m.0 m.1) refl same where
    by : (p : Progress) → role_progress s frame.role frame.next frame.stage m.0 m.1 ≡ p → now.frames ≡ frames_after s (frame ∷ below) p → AreOpen s number longer (frames_after s (frame ∷ below) p)
    by (Goes stage) comes same = (role-goes below frame.role frame.next frame.stage stage index are.0 ahead comes, are.1)
    by (Answers word answer) comes same =
        fresh-open s number longer now (settled s (record frame { next = frame.next + 1; stage = Start } ∷ below)) led same
        (settled-fresh s (record frame { next = frame.next + 1; stage = Start } ∷ below) (inl refl, are.1))
    by (Enters owner stage) comes same =
        let next : Frame = record frame { stage = stage } in
        fresh-open s number longer now (settled s (entered (next ∷ below) owner)) led same (settled-fresh s (entered (next ∷ below) owner) (entering next owner stage comes (nat_lt (length (next ∷ below)) MOST_FRAMES)))
      where
        entering : (next : Frame) (owner : ℕ) (stage : Stage) → role_progress s frame.role frame.next frame.stage m.0 m.1 ≡ Enters owner stage → (b : Bool) →
            AreFresh s (cond b (first_frame (Script owner) ∷ record frame { stage = stage } ∷ below) (record frame { stage = stage } ∷ below))
        entering next owner stage comes true = (inl refl, (enters-away s m frame.role frame.next frame.stage index owner stage ahead comes, are.1))
        entering next owner stage comes false = (inr (enters-away s m frame.role frame.next frame.stage index owner stage ahead comes), are.1)

  play-longer : (a : Answered) → IsPlayOf s number made a → IsPlayOf s number longer a
  play-longer a of = record {
    owner = of.owner;
    next = of.next;
    call = of.call;
    below = of.below;
    is_word = of.is_word;
    before = of.before;
    play = of.play;
    rest = of.rest ++ m ∷ [];
    whole = ap (λ (xs : List StepMade). xs ++ m ∷ []) of.whole ∙ append_assoc of.before (of.play ++ of.rest) (m ∷ []) ∙ ap (λ (xs : List StepMade). of.before ++ xs) (append_assoc of.play of.rest (m ∷ []));
    last = of.last;
    begins = of.begins;
    done = of.done;
  }

  use-longer : (a : Answered) → IsUseOf made a → IsUseOf longer a
  use-longer a of = record {
    front = of.front;
    step = of.step;
    rest = of.rest ++ m ∷ [];
    whole = ap (λ (xs : List StepMade). xs ++ m ∷ []) of.whole ∙ append_assoc of.front (of.step ∷ of.rest) (m ∷ []);
    last = of.last;
    in_use = of.in_use;
  }

  either-longer : (a : Answered) → IsPlayOf s number made a ⊎ IsUseOf made a → IsPlayOf s number longer a ⊎ IsUseOf longer a
  either-longer a (inl of) = inl (play-longer a of)
  either-longer a (inr of) = inr (use-longer a of)

  -- what was answered before still is
  still-played : (answers : List Answered) → All (Played s number made) answers → All (Played s number longer) answers
  unfolding Played
  still-played answers all = All-weaker (Played s number made) (Played s number longer) (λ a played passed. either-longer a (played passed)) answers all

  answers-step : (frames : List Frame) (index count : ℕ) (answers : List Answered) → AreOpen s number made frames → slice_get (frames_attempts s frames) index ≡ Some m.0 → count ≡ length made →
      All (Played s number made) answers → All (Played s number longer) (answers_after answers count (frames_progress s frames m.0 m.1))
  unfolding Played
  answers-step [] index count answers are ahead many all = absurd (cc)
  answers-step (frame ∷ below) index count answers are ahead many all = by (role_progress s frame.role frame.next frame.stage m.0 m.1) refl where
    by : (p : Progress) → role_progress s frame.role frame.next frame.stage m.0 m.1 ≡ p → All (Played s number longer) (answers_after answers count p)
    by (Goes stage) comes = still-played answers all
    by (Enters owner stage) comes = still-played answers all
    by (Answers word answer) comes =
        All-push (Played s number longer) answers (record { step = count; word = word; answer = answer }) (still-played answers all)
        (λ passed. role-answers below frame.role frame.next frame.stage index count word answer are.0 ahead comes many)

-- what holds of a player with these steps
pub record Holds (s : Content) (number : ℕ) (made : List StepMade) (at : PlayerPlace) : Type 0 where
  pub led : IsLed s number made at
  pub frames : AreOpen s number made at.frames
  pub many : length at.spots ≡ length made
  pub answered : All (Played s number made) at.answers

-- a call that is at its checks has made no step of its own
open-checked : (s : Content) (number : ℕ) (made all : List StepMade) (passed : ℕ) (frames : List Frame) (check : Check) (now : PlayerPlace) → IsLed s number all now → now.frames ≡ frames →
    top_check s passed frames ≡ Some check → AreOpen s number made frames → AreOpen s number all frames
open-checked s number made all passed [] check now led same is are = tt
open-checked s number made all passed (frame ∷ below) check now led same is are =
    fresh-open s number all now (frame ∷ below) led same (inl (ap is_start (check-starts s passed frame.role frame.next frame.stage check is)), are.1)

pub holds-step : (s : Content) (number : ℕ) (made : List StepMade) (m : StepMade) (at : PlayerPlace) → Holds s number made at → IsAhead s at m.0 → Holds s number (made ++ m ∷ []) (after s at m.0 m.1)
unfolding Played
holds-step s number made m at holds ahead =
    turn (λ (now : PlayerPlace). IsLed s number all now → Holds s number all now) s at m.0 m.1 ahead (λ is. by_check is (oops_in m.1)) by_own
    (holds.led.0, holds.led.1, played-more s holds.led.0 made at m holds.led.2 ahead)
  where
    all : List StepMade
    all = made ++ m ∷ []

    count : length (at.spots ++ spot_of m.0 m.1 ∷ []) ≡ length all
    count = length_push at.spots (spot_of m.0 m.1) ∙ ap (λ (n : ℕ). n + 1) holds.many ∙ sym (length_push made m)

    by_check : (is : IsCheck s at m.0) (why : Option OopsWhy) → IsLed s number all (checked at is.check.word why (spot_of m.0 m.1)) → Holds s number all (checked at is.check.word why (spot_of m.0 m.1))
    by_check is None led = record {
      led = led;
      frames = open-checked s number made all at.passed at.frames is.check (checked at is.check.word None (spot_of m.0 m.1)) led refl (check-of-top s at.mode at.passed at.frames is.check is.comes) holds.frames;
      many = count;
      answered = still-played s number made m at.answers holds.answered;
    }
    by_check is (Some why) led = record {
      led = led;
      frames = tt;
      many = count;
      answered = All-push (Played s number all) at.answers (record { step = length at.spots; word = is.check.word; answer = Oops why }) (still-played s number made m at.answers holds.answered)
          (λ passed. absurd (cc));
    }

    by_own : IsOwn s at m.0 → IsLed s number all (moved s at m.0 (frames_progress s at.frames m.0 m.1) (spot_of m.0 m.1)) → Holds s number all (moved s at m.0 (frames_progress s at.frames m.0 m.1) (spot_of m.0 m.1))
    by_own is led = record {
      led = led;
      frames = open-step s number made m (moved s at m.0 (frames_progress s at.frames m.0 m.1) (spot_of m.0 m.1)) at.frames is.index led refl holds.frames is.ahead;
      many = count;
      answered = answers-step s number made m at.frames is.index (length at.spots) at.answers holds.frames is.ahead holds.many holds.answered;
    }

pub holds-played : (s : Content) (number : ℕ) (more made : List StepMade) (at end : PlayerPlace) → Holds s number made at → IsPlayed s at more end → Holds s number (made ++ more) end
holds-played s number [] made at end holds played =
    subst (λ (xs : List StepMade). Holds s number xs end) (sym (append-nil made)) (subst (λ (a : PlayerPlace). Holds s number made a) played holds)
holds-played s number (m ∷ more) made at end holds played =
    subst (λ (xs : List StepMade). Holds s number xs end) (append_assoc made (m ∷ []) more)
    (holds-played s number more (made ++ m ∷ []) (after s at m.0 m.1) end (holds-step s number made m at holds played.0) played.1)

pub holds-start : (s : Content) (number : ℕ) (at : PlayerPlace) → start_at s number ≡ Some at → Holds s number [] at
holds-start s number at is =
    let inner : ℕ → Option PlayerPlace = λ object. option_map (starting s number object) (slice_get s.decls object) in
    option_and_then_some inner (slice_get (players s.decls) number) at is (λ object found made. by_decl object (slice_get s.decls object) made)
  where
    by_decl : (object : ℕ) (decl : Option Decl) → option_map (starting s number object) decl ≡ Some at → Holds s number [] at
    by_decl object None made = absurd (cc)
    by_decl object (Some decl) made =
        let first : PlayerPlace = starting s number object decl in
        let same : first ≡ at = cc in
        let led : IsLed s number [] first = (at, is, sym same) in
        subst (λ (a : PlayerPlace). Holds s number [] a) same (record {
          led = led;
          frames = fresh-open s number [] first first.frames led refl (settled-fresh s (first_frame (role_at decl object) ∷ []) (inl refl, tt));
          many = refl;
          answered = All-nil (Played s number []);
        })

-- each answered call
pub each_call_is_played : (s : Content) (number : ℕ) (shown_at : PlayerPlace) (start : PlayerPlace) (made : List StepMade) → start_at s number ≡ Some start → IsPlayed s start made shown_at →
    All (λ (a : Answered). is_oops a.answer ≡ false → IsPlayOf s number made a ⊎ IsUseOf made a) shown_at.answers
unfolding Played
each_call_is_played s number at start made starts played = (holds-played s number made [] start at (holds-start s number start starts) played).answered
