-- Each step of a poll keeps what its marks say, and so does its answer.
use Rattle.std.proofs.Common.{◌≡◌, ℕ, zero, suc, ◌≤◌, Bool, true, false, not, ◌&&◌, ◌||◌, cond, Option, Some, None, option_to_list, List, [], ◌∷◌, ◌++◌, length, set, take, slice_get, All, refl, sym, ap, subst, ◌∙◌, ◌⊎◌, inl, inr, ⊎_elim, append-nil, arith}
use Rattle.std.specs.List.{list_any, position}
use Rattle.std.specs.Option.{option_and_then}
use Rattle.std.proofs.lemmas.Bool.{or_parts, both_ways}
use Rattle.std.proofs.lemmas.List.Elements.{All-nil, All-cons, All-append, All-weaker}
use Rattle.std.proofs.lemmas.Option.{same_Some, option_and_then_some}
use Rattle.zk_base.proofs.Lists.{All-at}
use Rattle.zk_line.specs.declared.events.Event.{Event}
use Rattle.zk_line.specs.declared.events.TheConstants.{MOST_EVENTS}
use Rattle.zk_model_wait.specs.declared.clock.ClockOp.{ClockOp}
use Rattle.zk_model_wait.specs.declared.clock.ClockOp.TheVariants as clock_ops
use Rattle.zk_model_wait.specs.declared.msgq.MsgqOp.TheVariants as msgq_ops
use Rattle.zk_model_wait.specs.declared.sem.SemOp.TheVariants as sem_ops
use Rattle.zk_words.specs.declared.timeout.Timeout.{Timeout}
use Rattle.zk_words.specs.declared.timeout.Timeout.TheVariants.{Ticks}
use Rattle.zk_worker.specs.declared.frames.Mark.{Mark}
use Rattle.zk_worker.specs.declared.frames.Mark.TheVariants.{Unasked}
use Rattle.zk_worker.specs.declared.frames.Alarm.{Alarm}
use Rattle.zk_worker.specs.declared.frames.Alarm.TheVariants.{Due, Ended}
use Rattle.zk_worker.specs.declared.steps.Spot.TheVariants as spots
use Rattle.zk_worker.specs.declared.steps.Step.{Step}
use Rattle.zk_worker.specs.declared.steps.Step.TheVariants as steps
use Rattle.zk_worker.specs.declared.steps.StepReply.{StepReply}
use Rattle.zk_worker.specs.declared.steps.StepReply.TheVariants as step_replies
use Rattle.zk_worker.specs.Polls.{waits, is_armed, is_ready, is_to_ask, unasked_from, asks_more, ask_step, drop_step, step_at, asking, dropping, watching, alarm_steps, is_ended, is_closing, registers, polling, mark_of, is_watch, watched_from, event_of, marked, alarm_after}
use Rattle.zk_player_laws.specs.PollLaws.{may_reply, is_ask, is_wait, is_quit, is_alarm_end, events_from, asks, is_over, IsRegistered, IsFor, IsDue}
use Rattle.zk_worker.specs.Follows.{StepMade}
use Rattle.zk_player_laws.proofs.PollMarks.{some-is, AsksNext, asks_first, none_to_ask, asked-at, to_ask-kept, none_ready-at, WatchOf, watching-each, Watched, watched, position-look, watched-clock}
use Rattle.zk_player_laws.proofs.PollReplies.{Marks, ask-marks, ask-is, Drops, drop-drops, watch-marks, watch-is, ask-for, ended-for, ask-only, arm-asks, ask-registers}
use Rattle.zk_player_laws.proofs.PollPlays.{Apart, Asked, asked-more, asked-same, asked-next, Kept, kept-marked, kept-clock, zip-length, Named, any-front}
use Rattle.zk_worker.proofs.PollSteps.{all_taken}

-- what a poll keeps with one step more
abbrev KeptNext : Timeout → List Event → List StepMade → Alarm → List Mark → StepMade → Type 0
KeptNext timeout events play alarm marks made =
    Kept timeout events (play ++ made ∷ []) (alarm_after alarm made.1) (marked marks (event_of events alarm marks made.0) (mark_of made.1))

-- the same, where the step is for this event
abbrev KeptFor : Timeout → List Event → List StepMade → Alarm → List Mark → StepMade → Option ℕ → Type 0
KeptFor timeout events play alarm marks made place =
    Kept timeout events (play ++ made ∷ []) (alarm_after alarm made.1) (marked marks place (mark_of made.1))

option-at : {X : Type 0} (o : Option X) (k : ℕ) (x : X) → slice_get (option_to_list o) k ≡ Some x → o ≡ Some x
option-at None k x is = absurd (cc)
option-at (Some y) zero x is = is
option-at (Some y) (suc k) x is = absurd (cc)

-- a poll with ticks has made a step
abbrev pub Later : Timeout → List StepMade → Type 0
Later timeout play = (ticks : ℕ) → timeout ≡ Ticks ticks → play ≡ [] → ⊥

-- its waiting is over where its marks and its alarm say so
pub over-is : (timeout : Timeout) (events : List Event) (play : List StepMade) (alarm : Alarm) (marks : List Mark) → Kept timeout events play alarm marks → is_over play ≡ is_closing alarm marks
over-is timeout events play alarm marks kept =
    ap (λ (b : Bool). b || list_any is_alarm_end play) kept.tells ∙ ap (λ (b : Bool). list_any is_ready marks || b) kept.ended

-- all is asked where nothing is to be asked
pub all-asked : (events : List Event) (play : List StepMade) (marks : List Mark) → Asked events play marks → asks_more events marks ≡ false → length (asks play) ≡ length (events_from 0 events)
all-asked events play marks asked none =
    let whole : events_from 0 events ≡ asked.done = asked.whole ∙ ap (λ (xs : List (ℕ × Event)). asked.done ++ xs) (none_to_ask 0 events marks none) ∙ append-nil asked.done in
    sym (ap (λ (xs : List (ℕ × Event)). length xs) whole ∙ zip-length Named asked.done (asks play) asked.each)

-- the step for the event at a place
record StepAt (made : Event → Mark → Option Step) (events : List Event) (marks : List Mark) (k : ℕ) (step : Step) : Type 0 where
  event : Event
  mark : Mark
  there : slice_get events k ≡ Some event
  marked : slice_get marks k ≡ Some mark
  is : made event mark ≡ Some step

step_at-parts : (made : Event → Mark → Option Step) (events : List Event) (marks : List Mark) (k : ℕ) (step : Step) →
    step_at made events marks (Some k) ≡ Some step → StepAt made events marks k step
step_at-parts made events marks k step is =
    option_and_then_some {P = StepAt made events marks k step} (λ event. option_and_then (made event) (slice_get marks k)) (slice_get events k) step is
    (λ event there more. option_and_then_some {P = StepAt made events marks k step} (made event) (slice_get marks k) step more
    (λ mark marked told. record { event = event; mark = mark; there = there; marked = marked; is = told }))

-- a poll that asks
ask-kept : (timeout : Timeout) (events : List Event) (play : List StepMade) (alarm : Alarm) (marks : List Mark) (made : StepMade) (index k : ℕ) →
    Kept timeout events play alarm marks → Apart play → Later timeout play → may_reply made ≡ true → unasked_from 0 events marks ≡ Some k →
    slice_get (option_to_list (asking (registers timeout marks) events marks)) index ≡ Some made.0 → KeptFor timeout events play alarm marks made (unasked_from 0 events marks)
ask-kept timeout events play alarm marks made index k kept apart later may found is =
    let registering = registers timeout marks in
    let asks : Event → Mark → Option Step = λ event mark. ask_step registering event in
    let next : AsksNext 0 events marks k k = asks_first events marks k found in
    let told : step_at asks events marks (Some k) ≡ Some made.0 =
    ap (λ (o : Option ℕ). step_at asks events marks o) (sym found) ∙ option-at (asking registering events marks) index made.0 is in
    let at : StepAt asks events marks k made.0 = step_at-parts asks events marks k made.0 told in
    let same : at.event ≡ next.event = same_Some at.event next.event (sym at.there ∙ next.there) in
    let asked : ask_step registering next.event ≡ Some made.0 = ap (λ (e : Event). ask_step registering e) (sym same) ∙ at.is in
    let says : Marks next.event Unasked made = ask-marks registering next.event made.0 made.1 asked may in
    let is_one : is_ask made ≡ true = ask-is registering next.event made.0 made.1 asked in
    let for : IsFor events play made.0 k = ask-for events play made.0 made.1 k is_one (asked-next events play marks k kept.asked next) in
    subst (λ (o : Option ℕ). KeptFor timeout events play alarm marks made o) (sym found)
    (kept-marked timeout events play alarm marks made k next.event Unasked kept apart next.there next.marked refl says for
    (asked-more events play marks k made (mark_of made.1) kept.asked next is_one says.named says.asked) later may (record {
      arms = λ arm. ask-registers registering next.event made.0 made.1 asked arm ∙ ap (λ (b : Bool). waits timeout && not b) (sym kept.tells);
      asked = λ no_ask sets. absurd (both_ways (is_ask made) no_ask is_one);
      waiting = λ wait. absurd (both_ways (is_wait made) (ask-only made.0 made.1 is_one).0 wait);
      quitting = λ quit. absurd (both_ways (is_quit made) (ask-only made.0 made.1 is_one).1 quit);
    }))

-- a poll that gives a registration up
drop-kept : (timeout : Timeout) (events : List Event) (play : List StepMade) (alarm : Alarm) (marks : List Mark) (made : StepMade) (index : ℕ) (place : Option ℕ) →
    Kept timeout events play alarm marks → Apart play → Later timeout play → may_reply made ≡ true → asks_more events marks ≡ false → is_over play ≡ true →
    slice_get (option_to_list (step_at drop_step events marks place)) index ≡ Some made.0 → KeptFor timeout events play alarm marks made place
drop-kept timeout events play alarm marks made index None kept apart later may none over is = absurd (cc)
drop-kept timeout events play alarm marks made index (Some k) kept apart later may none over is =
    let at : StepAt drop_step events marks k made.0 =
    step_at-parts drop_step events marks k made.0 (option-at (step_at drop_step events marks (Some k)) index made.0 is) in
    let drops : Drops at.event at.mark made = drop-drops at.event at.mark made.0 made.1 at.is may in
    let by : IsRegistered events play drops.spot k = kept.armed k at.event at.mark drops.spot at.there at.marked (sym drops.marks.left ∙ drops.at) in
    let closed : is_to_ask at.event at.mark ≡ false = asked-at 0 events marks k at.event at.mark none at.there at.marked in
    kept-marked timeout events play alarm marks made k at.event at.mark kept apart at.there at.marked drops.unready drops.marks
    (ended-for events play made.0 made.1 drops.spot k drops.at by)
    (asked-same events play marks (set marks k (mark_of made.1)) made kept.asked drops.no_ask
    (to_ask-kept 0 events marks k at.event at.mark (mark_of made.1) at.there at.marked closed drops.marks.asked)) later may (record {
      arms = λ arm. absurd (both_ways (is_ask made) drops.no_ask (arm-asks made.0 made.1 arm));
      asked = λ no_ask sets. all-asked events play marks kept.asked none;
      waiting = λ wait. absurd (both_ways (is_wait made) drops.no_wait wait);
      quitting = λ quit. over;
    })

-- what a step that waits is for
watch-for : (timeout : Timeout) (events : List Event) (play : List StepMade) (alarm : Alarm) (marks : List Mark) (step : Step) (reply : StepReply) (k : ℕ) (event : Event) (mark : Mark) →
    Kept timeout events play alarm marks → length events ≤ length marks → slice_get events k ≡ Some event → slice_get marks k ≡ Some mark → watched_from 0 step events marks ≡ Some k →
    is_watch step event mark ≡ true → is_ask (step, reply) ≡ false → Marks event mark (step, reply) → IsFor events play step k
watch-for timeout events play alarm marks (steps.Sem asked (sem_ops.PollEnd ended)) reply k event mark kept long there marked found is no_ask says =
    kept.armed k event mark (spots.Sem asked ended) there marked (sym says.left)
watch-for timeout events play alarm marks (steps.Msgq asked (msgq_ops.PollEnd ended)) reply k event mark kept long there marked found is no_ask says =
    kept.armed k event mark (spots.Msgq asked ended) there marked (sym says.left)
watch-for timeout events play alarm marks (steps.LookSignal object true) reply k event mark kept long there marked found is no_ask says =
    position-look object true events marks long ∙ found
watch-for timeout events play alarm marks (steps.LookSignal object false) reply k event mark kept long there marked found is no_ask says = absurd (cc)
watch-for timeout events play alarm marks step reply k event mark kept long there marked found is no_ask says = absurd (cc)

-- a poll that waits for an event
watch-kept : (timeout : Timeout) (events : List Event) (play : List StepMade) (alarm : Alarm) (marks : List Mark) (made : StepMade) →
    Kept timeout events play alarm marks → Apart play → Later timeout play → may_reply made ≡ true → asks_more events marks ≡ false → list_any is_ready marks ≡ false → is_over play ≡ false → length events ≤ length marks →
    WatchOf events marks made.0 → KeptFor timeout events play alarm marks made (watched_from 0 made.0 events marks)
watch-kept timeout events play alarm marks made kept apart later may none unready over long of =
    let known = watch-is of.event of.mark made.0 made.1 of.is in
    let at : Watched 0 made.0 events marks = watched 0 made.0 events marks of.i of.event of.mark of.there of.marked known.0 in
    let found : watched_from 0 made.0 events marks ≡ Some at.i = at.found ∙ ap (λ (n : ℕ). Some n) (omega arith) in
    let says : Marks at.event at.mark made = watch-marks made.0 at.event at.mark made.1 at.is may in
    let for : IsFor events play made.0 at.i =
    watch-for timeout events play alarm marks made.0 made.1 at.i at.event at.mark kept long at.there at.marked found at.is known.1 says in
    let closed : is_to_ask at.event at.mark ≡ false = asked-at 0 events marks at.i at.event at.mark none at.there at.marked in
    subst (λ (o : Option ℕ). KeptFor timeout events play alarm marks made o) (sym found)
    (kept-marked timeout events play alarm marks made at.i at.event at.mark kept apart at.there at.marked (none_ready-at marks at.i at.mark unready at.marked) says for
    (asked-same events play marks (set marks at.i (mark_of made.1)) made kept.asked known.1
    (to_ask-kept 0 events marks at.i at.event at.mark (mark_of made.1) at.there at.marked closed says.asked)) later may (record {
      arms = λ arm. absurd (both_ways (is_ask made) known.1 (arm-asks made.0 made.1 arm));
      asked = λ no_ask sets. all-asked events play marks kept.asked none;
      waiting = λ wait. over;
      quitting = λ quit. absurd (both_ways (is_quit made) known.2 quit);
    }))

-- the end of the alarm, and what it was due
record AlarmOf (alarm : Alarm) (step : Step) : Type 0 where
  moment : ℕ
  due : alarm ≡ Due moment
  is : steps.Clock (clock_ops.AlarmEnd moment) ≡ step

alarm-each : (alarm : Alarm) → All (AlarmOf alarm) (alarm_steps alarm)
alarm-each (Due moment) =
    All-cons (AlarmOf (Due moment)) (steps.Clock (clock_ops.AlarmEnd moment)) [] (record { moment = moment; due = refl; is = refl }) (All-nil (AlarmOf (Due moment)))
alarm-each alarm = All-nil (AlarmOf alarm)

never-clock : (op : ClockOp) (event : Event) (mark : Mark) → is_watch (steps.Clock op) event mark ≡ false
never-clock op event mark = refl

-- the alarm's end is answered by the clock
due-after : (alarm : Alarm) (moment : ℕ) (reply : StepReply) → may_reply (steps.Clock (clock_ops.AlarmEnd moment), reply) ≡ true → alarm_after alarm reply ≡ Ended
due-after alarm moment (step_replies.Clock reply place) may = refl
due-after alarm moment reply may = absurd (cc)

-- the moment of a step that ends an alarm
abbrev moment_of : Step → ℕ
moment_of (steps.Clock (clock_ops.AlarmEnd moment)) = moment
moment_of step = 0

ended-due : (alarm : Alarm) (moment : ℕ) → alarm ≡ Ended → alarm ≡ Due moment → ⊥
ended-due alarm moment ended due = cc

or-true : (a : Bool) → (a || true) ≡ true
or-true true = refl
or-true false = refl

-- the end of the alarm of a poll that waits
alarm-kept : (timeout : Timeout) (events : List Event) (play : List StepMade) (alarm : Alarm) (marks : List Mark) (made : StepMade) →
    Kept timeout events play alarm marks → Later timeout play → may_reply made ≡ true → asks_more events marks ≡ false → is_over play ≡ false →
    AlarmOf alarm made.0 → KeptFor timeout events play alarm marks made (watched_from 0 made.0 events marks)
alarm-kept timeout events play alarm marks made kept later may none over of =
    let op = clock_ops.AlarmEnd of.moment in
    let due : IsDue play of.moment = kept.due of.moment of.due in
    subst (λ (step : Step). may_reply (step, made.1) ≡ true → KeptFor timeout events play alarm marks (step, made.1) (watched_from 0 step events marks)) of.is
    (λ told.
    let after : alarm_after alarm made.1 ≡ Ended = due-after alarm of.moment made.1 told in
    subst (λ (o : Option ℕ). KeptFor timeout events play alarm marks (steps.Clock op, made.1) o) (sym (watched-clock 0 (steps.Clock op) events marks (never-clock op)))
    (kept-clock timeout events play alarm (alarm_after alarm made.1) marks op made.1 kept refl (or-true (is_ended alarm) ∙ ap is_ended (sym after))
    (record {
      arms = λ arm. absurd (cc);
      asked = λ no_ask sets. all-asked events play marks kept.asked none;
      waiting = λ wait. over;
      quitting = λ quit. absurd (cc);
    })
    (record {
      begins = λ ticks is none_made. absurd (later ticks is none_made);
      sets = λ ticks is. absurd (cc);
      ends = λ moment is. subst (λ (m : ℕ). IsDue play m) (ap moment_of is) due;
    })
    (λ moment is. absurd (ended-due (alarm_after alarm made.1) moment after is))
    (λ moment set unended. absurd (both_ways true (any-front is_alarm_end play (steps.Clock op, made.1) unended).1 refl))))
    may

-- what a poll that waits attempts
waits-each : (events : List Event) (alarm : Alarm) (marks : List Mark) → All (λ step. WatchOf events marks step ⊎ AlarmOf alarm step) (watching events marks ++ alarm_steps alarm)
waits-each events alarm marks =
    let P : Step → Type 0 = λ step. WatchOf events marks step ⊎ AlarmOf alarm step in
    All-append P (watching events marks) (alarm_steps alarm)
    (All-weaker (WatchOf events marks) P (λ step of. inl of) (watching events marks) (watching-each events marks))
    (All-weaker (AlarmOf alarm) P (λ step of. inr of) (alarm_steps alarm) (alarm-each alarm))

-- each step of a poll with this alarm and these marks
pub polling-kept : (timeout : Timeout) (events : List Event) (play : List StepMade) (alarm : Alarm) (marks : List Mark) (made : StepMade) (index : ℕ) →
    Kept timeout events play alarm marks → Apart play → Later timeout play → length events ≤ MOST_EVENTS → may_reply made ≡ true →
    slice_get (polling timeout events alarm marks) index ≡ Some made.0 → KeptNext timeout events play alarm marks made
polling-kept timeout events play alarm marks made index kept apart later few may is = by (asks_more events marks) refl is where
  asks : List Step
  asks = option_to_list (asking (registers timeout marks) events marks)

  drops : List Step
  drops = option_to_list (dropping events marks)

  stays : List Step
  stays = watching (take MOST_EVENTS events) marks ++ alarm_steps alarm

  closing : (b : Bool) → asks_more events marks ≡ false → is_closing alarm marks ≡ b → slice_get (cond b drops stays) index ≡ Some made.0 →
      KeptFor timeout events play alarm marks made (cond b (position is_armed marks) (watched_from 0 made.0 events marks))
  closing true none closes is = drop-kept timeout events play alarm marks made index (position is_armed marks) kept apart later may none (over-is timeout events play alarm marks kept ∙ closes) is
  closing false none closes is =
      let P : Step → Type 0 = λ step. WatchOf events marks step ⊎ AlarmOf alarm step in
      let all : take MOST_EVENTS events ≡ events = all_taken events few in
      let at : slice_get (watching events marks ++ alarm_steps alarm) index ≡ Some made.0 =
      ap (λ (es : List Event). slice_get (watching es marks ++ alarm_steps alarm) index) (sym all) ∙ is in
      let unready = or_parts (list_any is_ready marks) (is_ended alarm) closes in
      let long : length events ≤ length marks = omega (arith, kept.size) in
      ⊎_elim
      (λ (of : WatchOf events marks made.0). watch-kept timeout events play alarm marks made kept apart later may none unready.0 (over-is timeout events play alarm marks kept ∙ closes) long of)
      (λ (of : AlarmOf alarm made.0). alarm-kept timeout events play alarm marks made kept later may none (over-is timeout events play alarm marks kept ∙ closes) of)
      (All-at P (watching events marks ++ alarm_steps alarm) index made.0 (waits-each events alarm marks) at)

  by : (b : Bool) → asks_more events marks ≡ b → slice_get (cond b asks (cond (is_closing alarm marks) drops stays)) index ≡ Some made.0 →
      KeptFor timeout events play alarm marks made (cond b (unasked_from 0 events marks) (cond (is_closing alarm marks) (position is_armed marks) (watched_from 0 made.0 events marks)))
  by true more is =
      let first = some-is (unasked_from 0 events marks) more in
      ask-kept timeout events play alarm marks made index first.0 kept apart later may first.1 is
  by false none is = closing (is_closing alarm marks) none refl is
