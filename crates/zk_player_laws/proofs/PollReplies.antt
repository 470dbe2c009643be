-- What a step of a poll and its reply say of the mark of its event.
use Rattle.std.proofs.Common.{◌≡◌, ◌==◌, ℕ, Bool, true, false, cond, is_some, Some, None, List, refl, sym, ap, subst, ◌∙◌}
use Rattle.std.proofs.lemmas.Bool.{and_parts, and_from, both_ways, eqb-true}
use Rattle.std.proofs.lemmas.Option.{same_Some}
use Rattle.zk_base.proofs.WaitsOnce.{eqb-same}
use Rattle.zk_line.specs.declared.types.Ref.{Ref}
use Rattle.zk_line.specs.declared.events.Event.{Event}
use Rattle.zk_line.specs.declared.events.Event.TheVariants.{Ignore, Sem, Msgq, Sig}
use Rattle.zk_model_wait.specs.declared.clock.ClockOp.{ClockOp}
use Rattle.zk_model_wait.specs.declared.msgq.MsgqOp.TheVariants as msgq_ops
use Rattle.zk_model_wait.specs.declared.msgq.MsgqReply.TheVariants as msgq_replies
use Rattle.zk_model_wait.specs.declared.sem.SemOp.TheVariants as sem_ops
use Rattle.zk_model_wait.specs.declared.sem.SemReply.TheVariants as sem_replies
use Rattle.zk_worker.specs.declared.frames.Mark.{Mark}
use Rattle.zk_worker.specs.declared.frames.Mark.TheVariants.{Unasked, Armed, Ready, Not}
use Rattle.zk_worker.specs.declared.frames.Alarm.{Alarm}
use Rattle.zk_worker.specs.declared.steps.Spot.{Spot}
use Rattle.zk_worker.specs.declared.steps.Spot.TheVariants as spots
use Rattle.zk_worker.specs.declared.steps.Step.{Step}
use Rattle.zk_worker.specs.declared.steps.Step.TheVariants as steps
use Rattle.zk_worker.specs.declared.steps.StepReply.{StepReply}
use Rattle.zk_worker.specs.declared.steps.StepReply.TheVariants as step_replies
use Rattle.zk_worker.specs.Polls.{is_to_ask, is_armed, is_ready, ask_step, watch_step, drop_step, is_watch, mark_of, alarm_after}
use Rattle.zk_player_laws.specs.PollLaws.{may_reply, registered_at, ended_at, is_ask, is_arm, asks_to_wait, is_wait, is_quit, is_alarm_end, tells_ready, names, IsAskFor, IsRegistered, IsFor, AsksFor, end_of, quit_of}
use Rattle.zk_worker.specs.Follows.{StepMade}
use Rattle.zk_worker.specs.Refs.{ref_object}
use Rattle.zk_player_laws.proofs.PollMarks.{is_unasked, spot_for}

-- a step of the clock
abbrev pub is_of_clock : StepMade → Bool
is_of_clock (steps.Clock op, reply) = true
is_of_clock made = false

-- what a step for an event that is marked so says with its reply
pub record Marks (event : Event) (mark : Mark) (made : StepMade) : Type 0 where
  pub free : is_of_clock made ≡ false
  pub named : names event made ≡ true
  pub taken : registered_at made ≡ spot_for event (mark_of made.1)
  pub left : ended_at made ≡ spot_for event mark
  pub asked : is_unasked (mark_of made.1) ≡ false
  pub agrees : tells_ready made ≡ is_ready (mark_of made.1)
  pub still : (alarm : Alarm) → alarm_after alarm made.1 ≡ alarm
  pub kind : is_armed (mark_of made.1) ≡ is_some (spot_for event (mark_of made.1))

sem-asked : (sem : Ref) (registers : Bool) (reply : StepReply) → may_reply (steps.Sem (ref_object sem) (sem_ops.PollArm registers), reply) ≡ true →
    Marks (Sem sem) Unasked (steps.Sem (ref_object sem) (sem_ops.PollArm registers), reply)
sem-asked sem registers (step_replies.Sem at sem_replies.Ready place) may =
    record { free = refl; named = eqb-same (ref_object sem); taken = refl; left = refl; asked = refl; agrees = refl; still = λ alarm. refl; kind = refl }
sem-asked sem registers (step_replies.Sem at sem_replies.NotReady place) may =
    record { free = refl; named = eqb-same (ref_object sem); taken = refl; left = refl; asked = refl; agrees = refl; still = λ alarm. refl; kind = refl }
sem-asked sem registers (step_replies.Sem at sem_replies.Armed place) may =
    record { free = refl; named = eqb-same (ref_object sem); taken = refl; left = refl; asked = refl; agrees = refl; still = λ alarm. refl; kind = refl }
sem-asked sem registers reply may = absurd (cc)

msgq-asked : (queue : Ref) (registers : Bool) (reply : StepReply) → may_reply (steps.Msgq (ref_object queue) (msgq_ops.PollArm registers), reply) ≡ true →
    Marks (Msgq queue) Unasked (steps.Msgq (ref_object queue) (msgq_ops.PollArm registers), reply)
msgq-asked queue registers (step_replies.Msgq at msgq_replies.Ready place) may =
    record { free = refl; named = eqb-same (ref_object queue); taken = refl; left = refl; asked = refl; agrees = refl; still = λ alarm. refl; kind = refl }
msgq-asked queue registers (step_replies.Msgq at msgq_replies.NotReady place) may =
    record { free = refl; named = eqb-same (ref_object queue); taken = refl; left = refl; asked = refl; agrees = refl; still = λ alarm. refl; kind = refl }
msgq-asked queue registers (step_replies.Msgq at msgq_replies.Armed place) may =
    record { free = refl; named = eqb-same (ref_object queue); taken = refl; left = refl; asked = refl; agrees = refl; still = λ alarm. refl; kind = refl }
msgq-asked queue registers reply may = absurd (cc)

seen-asked : (raised : Bool) → is_unasked (cond raised Ready Not) ≡ false
seen-asked true = refl
seen-asked false = refl

seen-kind : (raised : Bool) → is_armed (cond raised Ready Not) ≡ false
seen-kind true = refl
seen-kind false = refl

seen-agrees : (raised : Bool) → raised ≡ is_ready (cond raised Ready Not)
seen-agrees true = refl
seen-agrees false = refl

looked : (signal : Ref) (object : ℕ) (must : Bool) (mark : Mark) (reply : StepReply) → (object == ref_object signal) ≡ true → may_reply (steps.LookSignal object must, reply) ≡ true →
    Marks (Sig signal) mark (steps.LookSignal object must, reply)
looked signal object must mark (step_replies.Seen seen) is may =
    record { free = refl; named = is; taken = refl; left = refl; asked = seen-asked seen.raised; agrees = seen-agrees seen.raised; still = λ alarm. refl; kind = seen-kind seen.raised }
looked signal object must mark reply is may = absurd (cc)

-- the marks of a step that asks
pub ask-marks : (registers : Bool) (event : Event) (step : Step) (reply : StepReply) → ask_step registers event ≡ Some step → may_reply (step, reply) ≡ true →
    Marks event Unasked (step, reply)
ask-marks registers Ignore step reply is may = absurd (cc)
ask-marks registers (Sem sem) step reply is may =
    let asks = steps.Sem (ref_object sem) (sem_ops.PollArm registers) in
    subst (λ (s : Step). may_reply (s, reply) ≡ true → Marks (Sem sem) Unasked (s, reply)) (same_Some asks step is) (sem-asked sem registers reply) may
ask-marks registers (Msgq queue) step reply is may =
    let asks = steps.Msgq (ref_object queue) (msgq_ops.PollArm registers) in
    subst (λ (s : Step). may_reply (s, reply) ≡ true → Marks (Msgq queue) Unasked (s, reply)) (same_Some asks step is) (msgq-asked queue registers reply) may
ask-marks registers (Sig signal) step reply is may =
    let asks = steps.LookSignal (ref_object signal) false in
    subst (λ (s : Step). may_reply (s, reply) ≡ true → Marks (Sig signal) Unasked (s, reply)) (same_Some asks step is)
    (looked signal (ref_object signal) false Unasked reply (eqb-same (ref_object signal))) may

pub ask-is : (registers : Bool) (event : Event) (step : Step) (reply : StepReply) → ask_step registers event ≡ Some step → is_ask (step, reply) ≡ true
ask-is registers Ignore step reply is = absurd (cc)
ask-is registers (Sem sem) step reply is = ap (λ (s : Step). is_ask (s, reply)) (sym (same_Some (steps.Sem (ref_object sem) (sem_ops.PollArm registers)) step is))
ask-is registers (Msgq queue) step reply is = ap (λ (s : Step). is_ask (s, reply)) (sym (same_Some (steps.Msgq (ref_object queue) (msgq_ops.PollArm registers)) step is))
ask-is registers (Sig signal) step reply is = ap (λ (s : Step). is_ask (s, reply)) (sym (same_Some (steps.LookSignal (ref_object signal) false) step is))

sem-quitted : (sem : Ref) (place : ℕ) (reply : StepReply) → may_reply (steps.Sem (ref_object sem) (sem_ops.PollQuit place), reply) ≡ true →
    Marks (Sem sem) (Armed place) (steps.Sem (ref_object sem) (sem_ops.PollQuit place), reply)
sem-quitted sem place (step_replies.Sem at sem_replies.Noted n) may =
    record { free = refl; named = eqb-same (ref_object sem); taken = refl; left = refl; asked = refl; agrees = refl; still = λ alarm. refl; kind = refl }
sem-quitted sem place (step_replies.Sem at sem_replies.Plain n) may =
    record { free = refl; named = eqb-same (ref_object sem); taken = refl; left = refl; asked = refl; agrees = refl; still = λ alarm. refl; kind = refl }
sem-quitted sem place reply may = absurd (cc)

msgq-quitted : (queue : Ref) (place : ℕ) (reply : StepReply) → may_reply (steps.Msgq (ref_object queue) (msgq_ops.PollQuit place), reply) ≡ true →
    Marks (Msgq queue) (Armed place) (steps.Msgq (ref_object queue) (msgq_ops.PollQuit place), reply)
msgq-quitted queue place (step_replies.Msgq at msgq_replies.Noted n) may =
    record { free = refl; named = eqb-same (ref_object queue); taken = refl; left = refl; asked = refl; agrees = refl; still = λ alarm. refl; kind = refl }
msgq-quitted queue place (step_replies.Msgq at msgq_replies.Plain n) may =
    record { free = refl; named = eqb-same (ref_object queue); taken = refl; left = refl; asked = refl; agrees = refl; still = λ alarm. refl; kind = refl }
msgq-quitted queue place reply may = absurd (cc)

-- what gives a registration up: its marks, and where the registration is
pub record Drops (event : Event) (mark : Mark) (made : StepMade) : Type 0 where
  pub marks : Marks event mark made
  pub spot : Spot
  pub at : ended_at made ≡ Some spot
  pub unready : is_ready mark ≡ false
  pub no_ask : is_ask made ≡ false
  pub no_wait : is_wait made ≡ false

pub drop-drops : (event : Event) (mark : Mark) (step : Step) (reply : StepReply) → drop_step event mark ≡ Some step → may_reply (step, reply) ≡ true → Drops event mark (step, reply)
drop-drops (Sem sem) (Armed place) step reply is may =
    let quits = steps.Sem (ref_object sem) (sem_ops.PollQuit place) in
    subst (λ (s : Step). may_reply (s, reply) ≡ true → Drops (Sem sem) (Armed place) (s, reply)) (same_Some quits step is)
    (λ told. record { marks = sem-quitted sem place reply told; spot = spots.Sem (ref_object sem) place; at = refl; unready = refl; no_ask = refl; no_wait = refl }) may
drop-drops (Msgq queue) (Armed place) step reply is may =
    let quits = steps.Msgq (ref_object queue) (msgq_ops.PollQuit place) in
    subst (λ (s : Step). may_reply (s, reply) ≡ true → Drops (Msgq queue) (Armed place) (s, reply)) (same_Some quits step is)
    (λ told. record { marks = msgq-quitted queue place reply told; spot = spots.Msgq (ref_object queue) place; at = refl; unready = refl; no_ask = refl; no_wait = refl }) may
drop-drops event mark step reply is may = absurd (cc)

sem-ended : (sem : Ref) (asked ended place : ℕ) (reply : StepReply) → (asked == ref_object sem) ≡ true → (ended == place) ≡ true →
    may_reply (steps.Sem asked (sem_ops.PollEnd ended), reply) ≡ true → Marks (Sem sem) (Armed place) (steps.Sem asked (sem_ops.PollEnd ended), reply)
sem-ended sem asked ended place (step_replies.Sem at sem_replies.Noted n) object same may =
    record {
      free = refl;
      named = object;
      taken = refl;
      left = ap (λ (o : ℕ). Some (spots.Sem o ended)) (eqb-true asked (ref_object sem) object) ∙ ap (λ (p : ℕ). Some (spots.Sem (ref_object sem) p)) (eqb-true ended place same);
      asked = refl;
      agrees = refl;
      still = λ alarm. refl;
      kind = refl;
    }
sem-ended sem asked ended place reply object same may = absurd (cc)

msgq-ended : (queue : Ref) (asked ended place : ℕ) (reply : StepReply) → (asked == ref_object queue) ≡ true → (ended == place) ≡ true →
    may_reply (steps.Msgq asked (msgq_ops.PollEnd ended), reply) ≡ true → Marks (Msgq queue) (Armed place) (steps.Msgq asked (msgq_ops.PollEnd ended), reply)
msgq-ended queue asked ended place (step_replies.Msgq at msgq_replies.Noted n) object same may =
    record {
      free = refl;
      named = object;
      taken = refl;
      left = ap (λ (o : ℕ). Some (spots.Msgq o ended)) (eqb-true asked (ref_object queue) object) ∙ ap (λ (p : ℕ). Some (spots.Msgq (ref_object queue) p)) (eqb-true ended place same);
      asked = refl;
      agrees = refl;
      still = λ alarm. refl;
      kind = refl;
    }
msgq-ended queue asked ended place reply object same may = absurd (cc)

-- the marks of a step that waits for an event
pub watch-marks : (step : Step) (event : Event) (mark : Mark) (reply : StepReply) → is_watch step event mark ≡ true → may_reply (step, reply) ≡ true → Marks event mark (step, reply)
watch-marks (steps.Sem asked (sem_ops.PollEnd ended)) (Sem sem) (Armed place) reply is may =
    let both = and_parts (asked == ref_object sem) (ended == place) is in
    sem-ended sem asked ended place reply both.0 both.1 may
watch-marks (steps.Msgq asked (msgq_ops.PollEnd ended)) (Msgq queue) (Armed place) reply is may =
    let both = and_parts (asked == ref_object queue) (ended == place) is in
    msgq-ended queue asked ended place reply both.0 both.1 may
watch-marks (steps.LookSignal asked must) (Sig signal) mark reply is may = looked signal asked must mark reply is may
watch-marks step event mark reply is may = absurd (cc)

-- an attempt that waits for an event is known as such
pub watch-is : (event : Event) (mark : Mark) (step : Step) (reply : StepReply) → watch_step event mark ≡ Some step →
    (is_watch step event mark ≡ true) × (is_ask (step, reply) ≡ false) × (is_quit (step, reply) ≡ false)
watch-is (Sem sem) (Armed place) step reply is =
    subst (λ (s : Step). (is_watch s (Sem sem) (Armed place) ≡ true) × (is_ask (s, reply) ≡ false) × (is_quit (s, reply) ≡ false)) (same_Some (steps.Sem (ref_object sem) (sem_ops.PollEnd place)) step is)
    (and_from (ref_object sem == ref_object sem) (place == place) (eqb-same (ref_object sem)) (eqb-same place), refl, refl)
watch-is (Msgq queue) (Armed place) step reply is =
    subst (λ (s : Step). (is_watch s (Msgq queue) (Armed place) ≡ true) × (is_ask (s, reply) ≡ false) × (is_quit (s, reply) ≡ false)) (same_Some (steps.Msgq (ref_object queue) (msgq_ops.PollEnd place)) step is)
    (and_from (ref_object queue == ref_object queue) (place == place) (eqb-same (ref_object queue)) (eqb-same place), refl, refl)
watch-is (Sig signal) mark step reply is =
    subst (λ (s : Step). (is_watch s (Sig signal) mark ≡ true) × (is_ask (s, reply) ≡ false) × (is_quit (s, reply) ≡ false)) (same_Some (steps.LookSignal (ref_object signal) true) step is)
    (eqb-same (ref_object signal), refl, refl)
watch-is event mark step reply is = absurd (cc)

-- what a step of the clock says of all but the alarm: nothing
pub record OfClock (made : StepMade) : Type 0 where
  pub no_ask : is_ask made ≡ false
  pub untold : tells_ready made ≡ false
  pub none : registered_at made ≡ None
  pub ends : ended_at made ≡ None
  pub no_arm : is_arm made ≡ false
  pub no_quit : is_quit made ≡ false

pub of-clock : (op : ClockOp) (reply : StepReply) → OfClock (steps.Clock op, reply)
of-clock op reply = record { no_ask = refl; untold = refl; none = refl; ends = refl; no_arm = refl; no_quit = refl }

pub free-no_end : (step : Step) (reply : StepReply) → is_of_clock (step, reply) ≡ false → is_alarm_end (step, reply) ≡ false
free-no_end (steps.Clock op) reply is = absurd (cc)
free-no_end step reply is = refl

-- an ask in its turn is for its event
pub ask-for : (events : List Event) (before : List StepMade) (step : Step) (reply : StepReply) (k : ℕ) → is_ask (step, reply) ≡ true → IsAskFor events before k → IsFor events before step k
ask-for events before (steps.Sem object (sem_ops.PollArm waits)) reply k is for = for
ask-for events before (steps.Msgq object (msgq_ops.PollArm waits)) reply k is for = for
ask-for events before (steps.LookSignal object false) reply k is for = for
ask-for events before step reply k is for = absurd (cc)

-- and the end of a registration is for the event that was registered
pub ended-for : (events : List Event) (before : List StepMade) (step : Step) (reply : StepReply) (spot : Spot) (k : ℕ) → ended_at (step, reply) ≡ Some spot →
    IsRegistered events before spot k → IsFor events before step k
ended-for events before (steps.Sem object (sem_ops.PollEnd place)) reply spot k is by = subst (λ (s : Spot). IsRegistered events before s k) (sym (same_Some (spots.Sem object place) spot is)) by
ended-for events before (steps.Sem object (sem_ops.PollQuit place)) reply spot k is by = subst (λ (s : Spot). IsRegistered events before s k) (sym (same_Some (spots.Sem object place) spot is)) by
ended-for events before (steps.Msgq object (msgq_ops.PollEnd place)) reply spot k is by = subst (λ (s : Spot). IsRegistered events before s k) (sym (same_Some (spots.Msgq object place) spot is)) by
ended-for events before (steps.Msgq object (msgq_ops.PollQuit place)) reply spot k is by = subst (λ (s : Spot). IsRegistered events before s k) (sym (same_Some (spots.Msgq object place) spot is)) by
ended-for events before step reply spot k is by = absurd (cc)

-- a step that has registered is an ask
pub registered-for : (events : List Event) (before : List StepMade) (step : Step) (reply : StepReply) (spot : Spot) (k : ℕ) → registered_at (step, reply) ≡ Some spot →
    IsFor events before step k → IsAskFor events before k
registered-for events before (steps.Sem object (sem_ops.PollArm waits)) reply spot k is for = for
registered-for events before (steps.Msgq object (msgq_ops.PollArm waits)) reply spot k is for = for
registered-for events before step reply spot k is for = absurd (cc)

-- what asks neither waits nor gives up
pub ask-only : (step : Step) (reply : StepReply) → is_ask (step, reply) ≡ true → (is_wait (step, reply) ≡ false) × (is_quit (step, reply) ≡ false)
ask-only (steps.Sem object (sem_ops.PollArm waits)) reply is = (refl, refl)
ask-only (steps.Msgq object (msgq_ops.PollArm waits)) reply is = (refl, refl)
ask-only (steps.LookSignal object false) reply is = (refl, refl)
ask-only step reply is = absurd (cc)

pub arm-asks : (step : Step) (reply : StepReply) → is_arm (step, reply) ≡ true → is_ask (step, reply) ≡ true
arm-asks (steps.Sem object (sem_ops.PollArm waits)) reply is = refl
arm-asks (steps.Msgq object (msgq_ops.PollArm waits)) reply is = refl
arm-asks step reply is = absurd (cc)

-- whether an ask registers
pub ask-registers : (registers : Bool) (event : Event) (step : Step) (reply : StepReply) → ask_step registers event ≡ Some step → is_arm (step, reply) ≡ true → asks_to_wait (step, reply) ≡ registers
ask-registers registers Ignore step reply is arm = absurd (cc)
ask-registers registers (Sem sem) step reply is arm = ap (λ (s : Step). asks_to_wait (s, reply)) (sym (same_Some (steps.Sem (ref_object sem) (sem_ops.PollArm registers)) step is))
ask-registers registers (Msgq queue) step reply is arm = ap (λ (s : Step). asks_to_wait (s, reply)) (sym (same_Some (steps.Msgq (ref_object queue) (msgq_ops.PollArm registers)) step is))
ask-registers registers (Sig signal) step reply is arm =
    absurd (both_ways (is_arm (step, reply)) (ap (λ (s : Step). is_arm (s, reply)) (sym (same_Some (steps.LookSignal (ref_object signal) false) step is))) arm)

-- a registration ends only where it is noted, or is given up
pub ended-tells : (step : Step) (reply : StepReply) (spot : Spot) → ended_at (step, reply) ≡ Some spot → may_reply (step, reply) ≡ true → tells_ready (step, reply) ≡ false → is_quit (step, reply) ≡ true
ended-tells (steps.Sem object (sem_ops.PollQuit place)) reply spot is may untold = refl
ended-tells (steps.Msgq object (msgq_ops.PollQuit place)) reply spot is may untold = refl
ended-tells (steps.Sem object (sem_ops.PollEnd place)) reply spot is may untold = sem-noted object place reply may untold where
  sem-noted : (object place : ℕ) (reply : StepReply) → may_reply (steps.Sem object (sem_ops.PollEnd place), reply) ≡ true → tells_ready (steps.Sem object (sem_ops.PollEnd place), reply) ≡ false → false ≡ true
  sem-noted object place (step_replies.Sem at sem_replies.Noted n) may untold = absurd (cc)
  sem-noted object place reply may untold = may
ended-tells (steps.Msgq object (msgq_ops.PollEnd place)) reply spot is may untold = msgq-noted object place reply may untold where
  msgq-noted : (object place : ℕ) (reply : StepReply) → may_reply (steps.Msgq object (msgq_ops.PollEnd place), reply) ≡ true → tells_ready (steps.Msgq object (msgq_ops.PollEnd place), reply) ≡ false → false ≡ true
  msgq-noted object place (step_replies.Msgq at msgq_replies.Noted n) may untold = absurd (cc)
  msgq-noted object place reply may untold = may
ended-tells step reply spot is may untold = absurd (cc)

pub registered-asks : (step : Step) (reply : StepReply) (spot : Spot) → registered_at (step, reply) ≡ Some spot → is_ask (step, reply) ≡ true
registered-asks (steps.Sem object (sem_ops.PollArm waits)) reply spot is = refl
registered-asks (steps.Msgq object (msgq_ops.PollArm waits)) reply spot is = refl
registered-asks step reply spot is = absurd (cc)

-- an event that is to be asked has its ask
pub asks-for : (registers : Bool) (event : Event) → is_to_ask event Unasked ≡ true → (step : Step) × (ask_step registers event ≡ Some step) × AsksFor event step
asks-for registers Ignore is = absurd (cc)
asks-for registers (Sem sem) is = (steps.Sem (ref_object sem) (sem_ops.PollArm registers), refl, λ reply. (refl, eqb-same (ref_object sem)))
asks-for registers (Msgq queue) is = (steps.Msgq (ref_object queue) (msgq_ops.PollArm registers), refl, λ reply. (refl, eqb-same (ref_object queue)))
asks-for registers (Sig signal) is = (steps.LookSignal (ref_object signal) false, refl, λ reply. (refl, eqb-same (ref_object signal)))

-- and one at which the caller is registered has what waits for its note, and what gives it up
pub stands-attempts : (event : Event) (mark : Mark) (spot : Spot) → spot_for event mark ≡ Some spot →
    (ends : Step) × (quits : Step) × (end_of spot ≡ Some ends) × (watch_step event mark ≡ Some ends) × (drop_step event mark ≡ Some quits) × (quit_of spot ≡ Some quits)
stands-attempts (Sem sem) (Armed place) spot is = (
  steps.Sem (ref_object sem) (sem_ops.PollEnd place),
  steps.Sem (ref_object sem) (sem_ops.PollQuit place),
  ap end_of (sym (same_Some (spots.Sem (ref_object sem) place) spot is)),
  refl,
  refl,
  ap quit_of (sym (same_Some (spots.Sem (ref_object sem) place) spot is)),
)
stands-attempts (Msgq queue) (Armed place) spot is = (
  steps.Msgq (ref_object queue) (msgq_ops.PollEnd place),
  steps.Msgq (ref_object queue) (msgq_ops.PollQuit place),
  ap end_of (sym (same_Some (spots.Msgq (ref_object queue) place) spot is)),
  refl,
  refl,
  ap quit_of (sym (same_Some (spots.Msgq (ref_object queue) place) spot is)),
)
stands-attempts event mark spot is = absurd (cc)

-- what the caller is registered by is a mark that says so
pub spot_for-armed : (event : Event) (mark : Mark) (spot : Spot) → spot_for event mark ≡ Some spot → is_armed mark ≡ true
spot_for-armed (Sem sem) (Armed place) spot is = refl
spot_for-armed (Msgq queue) (Armed place) spot is = refl
spot_for-armed event mark spot is = absurd (cc)
