-- Each player starts with its own script, and its scripts are played on by each of its steps.
use Rattle.std.proofs.Common.{◌≡◌, inl, inr, ℕ, ◌+◌, ◌<◌, ◌≤◌, Bool, true, false, cond, ◌&&◌, nat_lt, Option, Some, None, is_some, List, [], ◌∷◌, length, All, refl, sym, ap, subst, ◌∙◌, arith}
use Rattle.std.specs.List.{slice_get}
use Rattle.std.specs.Option.{option_map, option_map_or, option_and_then}
use Rattle.std.proofs.lemmas.Bool.Decides.{nat_tests}
use Rattle.std.proofs.lemmas.List.Elements.{All-nil, All-cons, All-head, All-tail}
use Rattle.std.proofs.lemmas.Option.{option_and_then_some, slice_get_past, slice_get_cases, same_Some}
use Rattle.zk_base.proofs.Lists.{slice_get-one}
use Rattle.zk_line.specs.Calls.{word_of}
use Rattle.zk_line.specs.Objects.{places, is_at, is_item, is_queue}
use Rattle.zk_line.specs.declared.events.Event.{Event}
use Rattle.zk_line.specs.declared.types.Call.{Call}
use Rattle.zk_line.specs.declared.types.Decl.{Decl}
use Rattle.zk_line.specs.declared.types.Decl.TheVariants as decls_of
use Rattle.zk_model_bus.specs.declared.channel.ChanOp.TheVariants as chan_ops
use Rattle.zk_model_bus.specs.declared.channel.ChanReply.TheVariants as chan_replies
use Rattle.zk_model_bus.specs.declared.observer.ObsOp.TheVariants as obs_ops
use Rattle.zk_model_bus.specs.declared.observer.ObsReply.TheVariants as obs_replies
use Rattle.zk_model_bus.specs.declared.table.OopsWhy.{OopsWhy}
use Rattle.zk_model_wait.specs.declared.clock.ClockReply.TheVariants as clock_replies
use Rattle.zk_model_wait.specs.declared.msgq.MsgqReply.TheVariants as msgq_replies
use Rattle.zk_model_wait.specs.declared.sem.SemReply.TheVariants as sem_replies
use Rattle.zk_model_work.specs.declared.ops.WorkOp.TheVariants as work_ops
use Rattle.zk_model_work.specs.declared.ops.WorkReply.TheVariants as work_replies
use Rattle.zk_scenario.specs.Content.{Content}
use Rattle.zk_scenario.specs.Players.{players, prio_of, calls_of}
use Rattle.zk_words.specs.declared.timeout.Timeout.{Timeout}
use Rattle.zk_words.specs.declared.word.Word.{Word}
use Rattle.zk_worker.specs.declared.answers.Answer.{Answer}
use Rattle.zk_worker.specs.declared.answers.Answered.{Answered}
use Rattle.zk_worker.specs.declared.frames.Alarm.{Alarm}
use Rattle.zk_worker.specs.declared.frames.Alarm.TheVariants.{Unset}
use Rattle.zk_worker.specs.declared.frames.Frame.{Frame}
use Rattle.zk_worker.specs.declared.frames.Mark.{Mark}
use Rattle.zk_worker.specs.declared.frames.Plan.{Plan}
use Rattle.zk_worker.specs.declared.frames.Plan.TheVariants as plans
use Rattle.zk_worker.specs.declared.frames.Progress.{Progress}
use Rattle.zk_worker.specs.declared.frames.Progress.TheVariants.{Goes, Answers, Enters}
use Rattle.zk_worker.specs.declared.frames.Role.{Role}
use Rattle.zk_worker.specs.declared.frames.Role.TheVariants.{Script, Worker}
use Rattle.zk_worker.specs.declared.frames.Stage.{Stage}
use Rattle.zk_worker.specs.declared.frames.Stage.TheVariants as stages
use Rattle.zk_worker.specs.declared.frames.TheConstants.{MOST_FRAMES}
use Rattle.zk_worker.specs.declared.frames.Using.{Using}
use Rattle.zk_worker.specs.declared.frames.Using.TheVariants as usings
use Rattle.zk_worker.specs.declared.steps.Step.{Step}
use Rattle.zk_worker.specs.declared.steps.Step.TheVariants as steps
use Rattle.zk_worker.specs.declared.steps.StepReply.{StepReply}
use Rattle.zk_worker.specs.declared.steps.StepReply.TheVariants as step_replies
use Rattle.zk_worker.specs.Calls.{plan_of, plan_attempts, plan_progress}
use Rattle.zk_worker.specs.Checks.{oops_in}
use Rattle.zk_worker.specs.Follows.{StepMade, IsPlayed}
use Rattle.zk_worker.specs.Places.{PlayerPlace}
use Rattle.zk_worker.specs.Polls.{poll_answer, is_answered, poll_goes, poll_progress, event_of, marked, mark_of, alarm_after, fresh}
use Rattle.zk_worker.specs.Protocol.{IsAhead, after, checked, moved, call_attempts, call_progress, role_attempts, role_progress, worker_attempts, worker_progress, run_progress, frames_attempts, frames_progress, frames_after, answers_after, is_over, settled, entered, first_frame, role_at, spot_of, starting, start_at}
use Rattle.zk_worker.specs.Publishes.{use_step, visit_step, channel_attempts, visit_progress, channel_progress, asks_for}
use Rattle.zk_worker.specs.Ranges.{is_start}
use Rattle.zk_worker.specs.Waits.{opening_progress, with_alarm, wait_progress}
use Rattle.zk_worker.proofs.CheckedSteps.{IsCheck, IsOwn, turn}
use Rattle.zk_player_laws.specs.CheckLaws.{is_check}
use Rattle.zk_player_laws.specs.ScriptLaws.{HasNoneLeft, IsThrough, AreLeft, from_its_start, opened_by, with_script, IsUnderWay, IsPlayedOn, IsPlayedTo, ArePlayedOn, own_role, IsFirstPlace, EachScriptIsPlayed}
use Rattle.zk_player_laws.specs.StackLaws.{is_reply_to, HasRoomFor, AlwaysHasRoom}
use Rattle.zk_player_laws.specs.VisitLaws.{used_chan}
use Rattle.zk_player_laws.proofs.CallLogs.{all-fit}
use Rattle.zk_player_laws.proofs.CallsMade.{IsFit}
use Rattle.zk_player_laws.proofs.CallsPlayed.{worker-answers}
use Rattle.zk_player_laws.proofs.LogsPlayed.{each_log_enters_its_scripts}
use Rattle.zk_player_laws.proofs.OtherCalls.{is_channel, EntersNone, uses-none, wait-calm, plan-plain, call-calm, channel-plain}
use Rattle.zk_player_laws.proofs.OwnSteps.{own-no-check}

-- What is closed.

-- who is over has no call left, and who isn't has one
over-through : (s : Content) (role : Role) (next : ℕ) → is_over s role next ≡ true → HasNoneLeft s role next
over-through s (Script owner) next over =
    slice_get_past (calls_of s.scripts owner) next (let past : length (calls_of s.scripts owner) ≤ next = grind (arith, nat_tests) in past)
over-through s (Worker queue) next over = absurd (cc)

through-over : (s : Content) (role : Role) (next : ℕ) → is_over s role next ≡ false → HasNoneLeft s role next → ⊥
through-over s (Script owner) next on none = elim (slice_get_cases (calls_of s.scripts owner) next).1 [
  | inl is ↦ (let never = sym none ∙ is.2 in cc)
  | inr is ↦ (let past : length (calls_of s.scripts owner) ≤ next = is.0 in grind (arith, nat_tests))
]
through-over s (Worker queue) next on none = none

pub settled-left : (s : Content) (frames : List Frame) → AreLeft s frames (settled s frames)
settled-left s [] = record { closed = []; whole = refl; through = All-nil (IsThrough s); stands = tt }
settled-left s (frame ∷ below) = by (is_over s frame.role frame.next) refl (settled-left s below) where
  by : (over : Bool) → is_over s frame.role frame.next ≡ over → AreLeft s below (settled s below) → AreLeft s (frame ∷ below) (cond over (settled s below) (frame ∷ below))
  by true over rest = record {
    closed = frame ∷ rest.closed;
    whole = ap (λ (l : List Frame). frame ∷ l) rest.whole;
    through = All-cons (IsThrough s) frame rest.closed (over-through s frame.role frame.next over) rest.through;
    stands = rest.stands;
  }
  by false over rest = record { closed = []; whole = refl; through = All-nil (IsThrough s); stands = through-over s frame.role frame.next over }

-- What is under way.

-- a call that isn't answered isn't at its beginning
abbrev GoesUnderWay : Progress → Type 0
GoesUnderWay (Goes stage) = is_start stage ≡ false
GoesUnderWay (Answers word answer) = Unit {0}
GoesUnderWay (Enters owner stage) = is_start stage ≡ false

opening-on : (word : Word) (reply : StepReply) → GoesUnderWay (opening_progress word reply)
opening-on word (step_replies.Work work_replies.Wait place) = refl
opening-on word (step_replies.Work (work_replies.WaitFor admission) place) = refl
opening-on word (step_replies.Sem object sem_replies.Wait place) = refl
opening-on word (step_replies.Msgq object msgq_replies.Wait place) = refl
opening-on word (step_replies.Chan object chan_replies.Wait place) = refl
opening-on word (step_replies.Obs object obs_replies.Wait place) = refl
opening-on word reply = tt

until-on : (moment : ℕ) (progress : Progress) → GoesUnderWay progress → GoesUnderWay (with_alarm moment progress)
until-on moment (Goes (stages.Waits place)) on = refl
until-on moment progress on = on

wait-on : (word : Word) (stage : Stage) (reply : StepReply) → GoesUnderWay (wait_progress word stage reply)
wait-on word stages.Start (step_replies.Clock (clock_replies.At moment) place) = refl
wait-on word stages.Start reply = opening-on word reply
wait-on word (stages.Alarmed moment) reply = until-on moment (opening_progress word reply) (opening-on word reply)
wait-on word (stages.WaitsUntil place moment) (step_replies.Clock reply at) = refl
wait-on word stage reply = tt

goes-on : (word : Word) (timeout : Timeout) (events : List Event) (alarm : Alarm) (marks : List Mark) → GoesUnderWay (poll_goes word timeout events alarm marks)
goes-on word timeout events alarm marks = by (is_answered timeout events alarm marks) where
  by : (b : Bool) → GoesUnderWay (cond b (Answers word (poll_answer marks)) (Goes (stages.Polls alarm marks)))
  by true = tt
  by false = refl

poll-on : (word : Word) (timeout : Timeout) (events : List Event) (stage : Stage) (made : Step) (reply : StepReply) → GoesUnderWay (poll_progress word timeout events stage made reply)
poll-on word timeout events stages.Start made (step_replies.Clock (clock_replies.At moment) place) = refl
poll-on word timeout events stages.Start made reply = goes-on word timeout events (alarm_after Unset reply) (marked fresh (event_of events Unset fresh made) (mark_of reply))
poll-on word timeout events (stages.Polls alarm marks) made reply = goes-on word timeout events (alarm_after alarm reply) (marked marks (event_of events alarm marks made) (mark_of reply))
poll-on word timeout events stage made reply = refl

channel-on : (word : Word) (stage : Stage) (reply : StepReply) → GoesUnderWay (channel_progress word stage reply)
channel-on word stages.Holds (step_replies.Chan chan (chan_replies.Observers told) place) = refl
channel-on word stages.Holds (step_replies.Chan chan (chan_replies.Bytes message) place) = refl
channel-on word stages.Holds reply = tt
channel-on word (stages.Visits left full) (step_replies.Obs observer obs_replies.Run place) = refl
channel-on word (stages.Visits left full) (step_replies.Obs observer obs_replies.Full place) = refl
channel-on word (stages.Visits left full) (step_replies.Obs observer reply place) = refl
channel-on word (stages.Visits left full) reply = tt
channel-on word (stages.Reads message) reply = tt
channel-on word stage (step_replies.Chan chan chan_replies.Got place) = refl
channel-on word stage reply = wait-on word stage reply

plan-on : (word : Word) (plan : Plan) (stage : Stage) (made : Step) (reply : StepReply) → GoesUnderWay (plan_progress word plan stage made reply)
plan-on word (plans.One step) stage made reply = tt
plan-on word (plans.Pair opening closing) stages.Start made reply = opening-on word reply
plan-on word (plans.Pair opening closing) stage made reply = tt
plan-on word (plans.Twice first second) stages.Start made reply = refl
plan-on word (plans.Twice first second) stage made reply = tt
plan-on word (plans.Wait waiting timeout) stage made reply = wait-on word stage reply
plan-on word (plans.Poll timeout events) stage made reply = poll-on word timeout events stage made reply
plan-on word (plans.Channel chan using_ timeout) stage made reply = channel-on word stage reply

under-way : (owner : ℕ) (stage : Stage) → is_start stage ≡ false → IsUnderWay (Script owner) stage
under-way owner stages.Start on = absurd (cc)
under-way owner stage on = tt

-- What is opened.

-- the script that is entered
abbrev entered_by : Progress → Option ℕ
entered_by (Goes stage) = None
entered_by (Answers word answer) = None
entered_by (Enters owner stage) = Some owner

plain-none : (progress : Progress) → EntersNone progress → entered_by progress ≡ None
plain-none (Goes stage) plain = refl
plain-none (Answers word answer) plain = refl
plain-none (Enters owner stage) plain = absurd plain

-- a step that uses no channel visits nobody
unused-opens : (decls : List Decl) (owner : ℕ) (step : Step) (reply : StepReply) → is_some (used_chan step) ≡ false → opened_by decls (Script owner) (step, reply) ≡ None
unused-opens decls owner (steps.Obs observer (obs_ops.Visit chan)) reply none = absurd (cc)
unused-opens decls owner step reply none = refl

visit-opens : (decls : List Decl) (owner : ℕ) (word : Word) (chan : ℕ) (left : List ℕ) (full : Bool) (reply : StepReply) → is_reply_to (visit_step chan left) reply ≡ true →
    opened_by decls (Script owner) (visit_step chan left, reply) ≡ entered_by (visit_progress word left full reply)
visit-opens decls owner word chan [] full (step_replies.Chan at reply place) fit = refl
visit-opens decls owner word chan [] full reply fit = absurd (cc)
visit-opens decls owner word chan (observer ∷ left) full (step_replies.Obs at obs_replies.Run place) fit = ap Some (let same : observer ≡ at = grind (arith, nat_tests) in same)
visit-opens decls owner word chan (observer ∷ left) full (step_replies.Obs at obs_replies.Full place) fit = refl
visit-opens decls owner word chan (observer ∷ left) full (step_replies.Obs at reply place) fit = refl
visit-opens decls owner word chan (observer ∷ left) full reply fit = absurd (cc)

-- an attempt that is the only one
of-only : (decls : List Decl) (owner : ℕ) (only : Step) (index : ℕ) (step : Step) (reply : StepReply) → slice_get (only ∷ []) index ≡ Some step →
    opened_by decls (Script owner) (only, reply) ≡ None → opened_by decls (Script owner) (step, reply) ≡ None
of-only decls owner only index step reply there none = subst (λ (x : Step). opened_by decls (Script owner) (x, reply) ≡ None) (slice_get-one only step index there) none

use-opens : (decls : List Decl) (owner chan : ℕ) (using_ : Using) (reply : StepReply) → opened_by decls (Script owner) (use_step chan using_, reply) ≡ None
use-opens decls owner chan (usings.Publish message) reply = refl
use-opens decls owner chan usings.Notify reply = refl
use-opens decls owner chan usings.Read reply = refl

channel-opens : (decls : List Decl) (owner : ℕ) (word : Word) (chan : ℕ) (using_ : Using) (timeout : Timeout) (stage : Stage) (index : ℕ) (step : Step) (reply : StepReply) →
    slice_get (channel_attempts chan using_ timeout stage) index ≡ Some step → is_reply_to step reply ≡ true →
    opened_by decls (Script owner) (step, reply) ≡ entered_by (channel_progress word stage reply)
channel-opens decls owner word chan using_ timeout stages.Holds index step reply there fit =
    of-only decls owner (use_step chan using_) index step reply there (use-opens decls owner chan using_ reply)
    ∙ sym (plain-none (channel_progress word stages.Holds reply) (channel-plain word stages.Holds reply (λ left full same. cc)))
channel-opens decls owner word chan using_ timeout (stages.Visits left full) index step reply there fit =
    let only : visit_step chan left ≡ step = slice_get-one (visit_step chan left) step index there in
    subst (λ (x : Step). opened_by decls (Script owner) (x, reply) ≡ entered_by (visit_progress word left full reply)) only
    (visit-opens decls owner word chan left full reply (subst (λ (x : Step). is_reply_to x reply ≡ true) (sym only) fit))
channel-opens decls owner word chan using_ timeout (stages.Reads message) index step reply there fit =
    of-only decls owner (steps.Chan chan chan_ops.Free) index step reply there refl
channel-opens decls owner word chan using_ timeout stage index step reply there fit =
    unused-opens decls owner step reply (uses-none step (wait-calm (asks_for chan using_) timeout stage index step there))
    ∙ sym (plain-none (channel_progress word stage reply) (channel-plain word stage reply (λ left full same. cc)))

plan-opens : (decls : List Decl) (owner : ℕ) (call : Call) (plan : Plan) → plan_of decls call ≡ plan → (stage : Stage) (index : ℕ) (step : Step) (reply : StepReply) →
    slice_get (plan_attempts (plan_of decls call) stage) index ≡ Some step → is_reply_to step reply ≡ true →
    opened_by decls (Script owner) (step, reply) ≡ entered_by (plan_progress (word_of call) (plan_of decls call) stage step reply)
plan-opens decls owner call (plans.Channel chan using_ timeout) same stage index step reply there fit =
    channel-opens decls owner (word_of call) chan using_ timeout stage index step reply (ap (λ (p : Plan). slice_get (plan_attempts p stage) index) (sym same) ∙ there) fit
    ∙ ap (λ (p : Plan). entered_by (plan_progress (word_of call) p stage step reply)) (sym same)
plan-opens decls owner call plan same stage index step reply there fit =
    let other : is_channel (plan_of decls call) ≡ false = ap is_channel same in
    unused-opens decls owner step reply (uses-none step (call-calm decls call stage index step other there))
    ∙ sym (plain-none (plan_progress (word_of call) (plan_of decls call) stage step reply) (plan-plain (word_of call) (plan_of decls call) stage step reply other))

worker-opens : (decls : List Decl) (queue : ℕ) (number : ℕ) (stage : Stage) (index : ℕ) (step : Step) (reply : StepReply) → slice_get (worker_attempts number stage) index ≡ Some step →
    opened_by decls (Worker queue) (step, reply) ≡ entered_by (worker_progress decls stage reply)
worker-opens decls queue number stages.Start index step reply there =
    subst (λ (x : Step). opened_by decls (Worker queue) (x, reply) ≡ entered_by (worker_progress decls stages.Start reply)) (slice_get-one (steps.Work (work_ops.Begin number)) step index there) (by reply)
  where
    by_run : (o : Option ℕ) → o ≡ entered_by (run_progress o)
    by_run None = refl
    by_run (Some owner) = refl

    by : (reply : StepReply) → opened_by decls (Worker queue) (steps.Work (work_ops.Begin number), reply) ≡ entered_by (worker_progress decls stages.Start reply)
    by (step_replies.Work (work_replies.Run item admission) place) = by_run (slice_get (places is_item decls) item)
    by reply = refl
worker-opens decls queue number stages.Runs index step reply there =
    subst (λ (x : Step). opened_by decls (Worker queue) (x, reply) ≡ None) (slice_get-one (steps.Work (work_ops.End number)) step index there) refl
worker-opens decls queue number stage index step reply there = absurd (cc)

-- What is known of a step of the innermost.
record Moves (s : Content) (role : Role) (next : ℕ) (made : StepMade) (progress : Progress) : Type 0 where
  opens : opened_by s.decls role made ≡ entered_by progress
  on : (owner : ℕ) → role ≡ Script owner → GoesUnderWay progress
  stands : HasNoneLeft s role next → ⊥
  answers : (word : Word) (answer : Answer) → progress ≡ Answers word answer → (owner : ℕ) × (role ≡ Script owner)

role-moves : (s : Content) (role : Role) (next : ℕ) (stage : Stage) (index : ℕ) (m : StepMade) → slice_get (role_attempts s role next stage) index ≡ Some m.0 → IsFit m →
    Moves s role next m (role_progress s role next stage m.0 m.1)
role-moves s (Worker queue) next stage index m ahead fit = record {
  opens = worker-opens s.decls queue _ stage index m.0 m.1 ahead;
  on = λ owner same. absurd (cc);
  stands = λ none. none;
  answers = λ word answer is. absurd (worker-answers s.decls stage m.1 word answer is);
}
role-moves s (Script owner) next stage index m ahead fit = by (slice_get (calls_of s.scripts owner) next) refl ahead where
  by : (o : Option Call) → slice_get (calls_of s.scripts owner) next ≡ o → slice_get (call_attempts s.decls o stage) index ≡ Some m.0 →
      Moves s (Script owner) next m (call_progress s.decls o stage m.0 m.1)
  by None there ahead = absurd (cc)
  by (Some call) there ahead = record {
    opens = plan-opens s.decls owner call (plan_of s.decls call) refl stage index m.0 m.1 ahead fit;
    on = λ other same. plan-on (word_of call) (plan_of s.decls call) stage m.0 m.1;
    stands = λ none. (let never = sym there ∙ none in cc);
    answers = λ word answer is. (owner, refl);
  }

-- A step.

way : (role : Role) (stage : Stage) → ((owner : ℕ) → role ≡ Script owner → is_start stage ≡ false) → IsUnderWay role stage
way (Script owner) stage on = under-way owner stage (on owner refl)
way (Worker queue) stage on = tt

has-room : (length most : ℕ) → length < most → nat_lt length most ≡ true
has-room length most room = grind (arith, nat_tests)

played-on : (s : Content) (frame : Frame) (below : List Frame) (m : StepMade) (number : ℕ) (earlier : List Answered) (progress : Progress) → Moves s frame.role frame.next m progress →
    HasRoomFor (frame ∷ below) progress → IsPlayedOn s frame below m earlier (answers_after earlier number progress) (frames_after s (frame ∷ below) progress)
played-on s frame below m number earlier (Goes stage) moves room = record {
  now = record frame { stage = stage };
  same = refl;
  goes = inl (refl, refl, way frame.role stage moves.on);
  left = subst (λ (o : Option ℕ). AreLeft s (with_script o (record frame { stage = stage } ∷ below)) (record frame { stage = stage } ∷ below)) (sym moves.opens)
      (record { closed = []; whole = refl; through = All-nil (IsThrough s); stands = moves.stands });
}
played-on s frame below m number earlier (Answers word answer) moves room = record {
  now = record frame { next = frame.next + 1; stage = stages.Start };
  same = refl;
  goes = inr (record { step = number; word = word; answer = answer }, refl, (moves.answers word answer refl).0, (moves.answers word answer refl).1, refl, refl);
  left = subst (λ (o : Option ℕ). AreLeft s (with_script o (record frame { next = frame.next + 1; stage = stages.Start } ∷ below)) (settled s (record frame { next = frame.next + 1; stage = stages.Start } ∷ below)))
      (sym moves.opens) (settled-left s (record frame { next = frame.next + 1; stage = stages.Start } ∷ below));
}
played-on s frame below m number earlier (Enters owner stage) moves room = record {
  now = record frame { stage = stage };
  same = refl;
  goes = inl (refl, refl, way frame.role stage moves.on);
  left = subst (λ (o : Option ℕ). AreLeft s (with_script o (record frame { stage = stage } ∷ below)) (settled s (entered (record frame { stage = stage } ∷ below) owner))) (sym moves.opens)
      (subst (λ (b : Bool). AreLeft s (from_its_start owner ∷ record frame { stage = stage } ∷ below)
      (settled s (cond b (first_frame (Script owner) ∷ record frame { stage = stage } ∷ below) (record frame { stage = stage } ∷ below))))
      (sym (has-room (length (record frame { stage = stage } ∷ below)) MOST_FRAMES room)) (settled-left s (from_its_start owner ∷ record frame { stage = stage } ∷ below)));
}

none-fails : (check : Bool) (why : Option OopsWhy) → why ≡ None → (check && is_some why) ≡ true → ⊥
none-fails true None none is = cc
none-fails true (Some why) none is = cc
none-fails false why none is = cc

own-never-fails : (check : Bool) (why : Option OopsWhy) → check ≡ false → (check && is_some why) ≡ true → ⊥
own-never-fails true why own is = cc
own-never-fails false why own is = cc

check-played : (s : Content) (at : PlayerPlace) (m : StepMade) (is : IsCheck s at m.0) (why : Option OopsWhy) → oops_in m.1 ≡ why → IsPlayedTo s at m (checked at is.check.word why (spot_of m.0 m.1))
check-played s at m is None none = record {
  who = refl;
  passes = λ checks passed. (refl, refl);
  ends = λ failed. absurd (none-fails (is_check m.0) (oops_in m.1) none failed);
  plays = λ isnt. absurd (let checks = ap is_check is.is_step in cc);
}
check-played s at m is (Some why) some = record {
  who = refl;
  passes = λ checks passed. absurd (let never = sym some ∙ passed in cc);
  ends = λ failed. refl;
  plays = λ isnt. absurd (let checks = ap is_check is.is_step in cc);
}

own-played : (s : Content) (at : PlayerPlace) (m : StepMade) → IsFit m → HasRoomFor at.frames (frames_progress s at.frames m.0 m.1) → IsOwn s at m.0 →
    IsPlayedTo s at m (moved s at m.0 (frames_progress s at.frames m.0 m.1) (spot_of m.0 m.1))
own-played s at m fit room is = record {
  who = refl;
  passes = λ checks passed. absurd (let own = own-no-check s at.frames is.index m.0 is.ahead in cc);
  ends = λ failed. absurd (own-never-fails (is_check m.0) (oops_in m.1) (own-no-check s at.frames is.index m.0 is.ahead) failed);
  plays = λ isnt. by at.frames refl is.ahead room;
}
  where
    by : (frames : List Frame) → at.frames ≡ frames → slice_get (frames_attempts s frames) is.index ≡ Some m.0 → HasRoomFor frames (frames_progress s frames m.0 m.1) →
        (frame : Frame) × (below : List Frame) × (at.frames ≡ frame ∷ below)
        × IsPlayedOn s frame below m at.answers (answers_after at.answers (length at.spots) (frames_progress s frames m.0 m.1)) (frames_after s frames (frames_progress s frames m.0 m.1))
    by [] same ahead room = absurd (cc)
    by (frame ∷ below) same ahead room = (
      frame,
      below,
      same,
      played-on s frame below m (length at.spots) at.answers (role_progress s frame.role frame.next frame.stage m.0 m.1)
          (role-moves s frame.role frame.next frame.stage is.index m ahead fit) room,
    )

step-played : (s : Content) (at : PlayerPlace) (m : StepMade) → IsAhead s at m.0 → IsFit m → HasRoomFor at.frames (frames_progress s at.frames m.0 m.1) → IsPlayedTo s at m (after s at m.0 m.1)
step-played s at m ahead fit room = turn (IsPlayedTo s at m) s at m.0 m.1 ahead (λ is. check-played s at m is (oops_in m.1) refl) (own-played s at m fit room)

all-played : (s : Content) (at end : PlayerPlace) (made : List StepMade) → All IsFit made → IsPlayed s at made end → AlwaysHasRoom s at made → ArePlayedOn s at made
all-played s at end [] fit led room = tt
all-played s at end (m ∷ more) fit led room = (
  step-played s at m led.0 (All-head IsFit m more fit) room.0,
  all-played s (after s at m.0 m.1) end more (All-tail IsFit m more fit) led.1 room.1,
)

-- Each player.

pub first-place : (s : Content) (number : ℕ) (at : PlayerPlace) → start_at s number ≡ Some at → IsFirstPlace s number at
first-place s number at is =
    let inner : ℕ → Option PlayerPlace = λ object. option_map (starting s number object) (slice_get s.decls object) in
    option_and_then_some inner (slice_get (players s.decls) number) at is (λ object found made. by_decl object found (slice_get s.decls object) refl made)
  where
    plays : (decl : Decl) (object : ℕ) → role_at decl object ≡ own_role (is_queue decl) object
    plays (decls_of.Queue name prio on) object = refl
    plays decl object = refl

    by_decl : (object : ℕ) → slice_get (players s.decls) number ≡ Some object → (decl : Option Decl) → slice_get s.decls object ≡ decl → option_map (starting s number object) decl ≡ Some at →
        IsFirstPlace s number at
    by_decl object found None there made = absurd (cc)
    by_decl object found (Some decl) there made =
        let role : role_at decl object ≡ own_role (is_at is_queue s.decls object) object = plays decl object ∙ ap (λ (d : Option Decl). own_role (option_map_or is_queue d false) object) (sym there) in
        subst (IsFirstPlace s number) (same_Some (starting s number object decl) at made) (record {
          object = object;
          is_player = found;
          left = subst (λ (r : Role). AreLeft s (first_frame r ∷ []) (settled s (first_frame (role_at decl object) ∷ []))) role (settled-left s (first_frame (role_at decl object) ∷ []));
          who = ap (option_and_then (λ (o : ℕ). option_map (λ (d : Decl). record { number = number; prio = prio_of d }) (slice_get s.decls o))) found
              ∙ ap (option_map (λ (d : Decl). record { number = number; prio = prio_of d })) there;
          passed = refl;
          answers = refl;
          steps = refl;
        })

-- each player starts with what it plays of its own, and its scripts are played on
pub each_script_is_played : EachScriptIsPlayed
each_script_is_played s number shown at is valid shows timed legal = (
  first-place s number is.start is.starts,
  all-played s is.start at is.made (all-fit shown timed at.spots is.made is.stands) is.played (each_log_enters_its_scripts s number shown at is valid shows timed legal),
)
