-- What holds along each play of a poll: its marks are what its steps told.
use Rattle.std.proofs.Common.{◌≡◌, ℕ, suc, ◌+◌, ◌<◌, Bool, true, false, ◌||◌, cond, eqb, Option, Some, None, option_to_list, List, [], ◌∷◌, ◌++◌, length, set, slice_get, count_by, refl, sym, ap, subst, ◌∙◌, ◌⊎◌, inl, inr, ⊎_elim, append_assoc, append-nil, arith}
use Rattle.std.specs.List.{AllZip, filter_map, cons_option, list_any, Contains}
use Rattle.std.proofs.lemmas.Bool.{cases_eq, eq-eqb, ne_eqb, cond-true, cond-false, both_ways, or_parts, or_from}
use Rattle.std.proofs.lemmas.List.{length-set}
use Rattle.std.proofs.lemmas.List.Elements.{filter-append, filter_map-append, Contains-append_left, Contains-append_right}
use Rattle.std.proofs.lemmas.List.Folds.{list_any-append}
use Rattle.std.proofs.lemmas.Option.{same_Some, slice_get_within, some_pair_parts}
use Rattle.zk_line.specs.declared.events.Event.{Event}
use Rattle.zk_line.specs.declared.events.TheConstants.{MOST_EVENTS}
use Rattle.zk_line.proofs.Lists.{slice_get-set}
use Rattle.zk_model_wait.specs.declared.clock.ClockOp.{ClockOp}
use Rattle.zk_model_wait.specs.declared.clock.ClockOp.TheVariants as clock_ops
use Rattle.zk_model_wait.specs.declared.clock.ClockReply.TheVariants as clock_replies
use Rattle.zk_model_wait.specs.declared.msgq.MsgqOp.TheVariants as msgq_ops
use Rattle.zk_model_wait.specs.declared.sem.SemOp.TheVariants as sem_ops
use Rattle.zk_words.specs.declared.timeout.Timeout.{Timeout}
use Rattle.zk_words.specs.declared.timeout.Timeout.TheVariants.{Ticks}
use Rattle.zk_worker.specs.declared.frames.Mark.{Mark}
use Rattle.zk_worker.specs.declared.frames.Mark.TheVariants.{Ready}
use Rattle.zk_worker.specs.declared.frames.Alarm.{Alarm}
use Rattle.zk_worker.specs.declared.frames.Alarm.TheVariants.{Due}
use Rattle.zk_worker.specs.declared.steps.Spot.{Spot}
use Rattle.zk_worker.specs.declared.steps.Spot.TheVariants as spots
use Rattle.zk_worker.specs.declared.steps.Step.{Step}
use Rattle.zk_worker.specs.declared.steps.Step.TheVariants as steps
use Rattle.zk_worker.specs.declared.steps.StepReply.{StepReply}
use Rattle.zk_worker.specs.declared.steps.StepReply.TheVariants as step_replies
use Rattle.zk_worker.specs.Polls.{is_ready, is_ended, mark_of, marked, alarm_after}
use Rattle.zk_player_laws.specs.PollLaws.{StandsAt, may_reply, registered_at, ended_at, is_ask, is_of_alarm, is_alarm_end, tells_ready, names, events_from, asks, registrations, endings, IsAskFor, IsRegistered, IsFor, PollIsTold, IsForOne, EachIsForOne, IsInTime, EachIsInTime, is_over, IsDue, IsAlarmed, KeepsItsAlarm}
use Rattle.zk_worker.specs.Follows.{StepMade}
use Rattle.zk_worker.proofs.Lists.{zip-push}
use Rattle.zk_player_laws.proofs.PollMarks.{count-append, is_unasked, to_ask, AsksNext, spot_for, standing, Standing, AreKnown, known-set, standing-set, any_ready-set}
use Rattle.zk_player_laws.proofs.PollReplies.{is_of_clock, Marks, OfClock, of-clock, free-no_end, registered-for, ask-for, ended-tells, registered-asks}

-- no two steps have registered at one place
abbrev pub Apart : List StepMade → Type 0
Apart play = (before other : List StepMade) (a b : StepMade) (spot : Spot) → StandsAt play before a → StandsAt play other b →
    registered_at a ≡ Some spot → registered_at b ≡ Some spot → before ≡ other

-- what stands in a play stands in each longer one
pub stands-longer : (play more before : List StepMade) (made : StepMade) → StandsAt play before made → StandsAt (play ++ more) before made
stands-longer play more before made at =
    record { rest = at.rest ++ more; whole = ap (λ (xs : List StepMade). xs ++ more) at.whole ∙ append_assoc before (made ∷ at.rest) more }

-- the last step of a play
stands-last : (play : List StepMade) (made : StepMade) → StandsAt (play ++ made ∷ []) play made
stands-last play made = record { rest = []; whole = refl }

-- a step of a play with one more is one of the play, or the one more
pub stands-cases : (play : List StepMade) (made : StepMade) (before : List StepMade) (x : StepMade) (rest : List StepMade) → play ++ made ∷ [] ≡ before ++ x ∷ rest →
    StandsAt play before x ⊎ ((before ≡ play) × (x ≡ made))
stands-cases [] made [] x rest whole = inr (refl, cc)
stands-cases [] made (b ∷ []) x rest whole = absurd (cc)
stands-cases [] made (b ∷ c ∷ before) x rest whole = absurd (cc)
stands-cases (p ∷ play) made [] x rest whole = inl (record { rest = play; whole = ap (λ (y : StepMade). y ∷ play) (cc) })
stands-cases (p ∷ play) made (b ∷ before) x rest whole =
    let same : p ≡ b = cc in
    let later : play ++ made ∷ [] ≡ before ++ x ∷ rest = cc in
    ⊎_elim
    (λ (at : StandsAt play before x). inl (record { rest = at.rest; whole = ap (λ (y : StepMade). y ∷ play) same ∙ ap (λ (ys : List StepMade). b ∷ ys) at.whole }))
    (λ (last : (before ≡ play) × (x ≡ made)). inr (ap (λ (ys : List StepMade). b ∷ ys) last.0 ∙ ap (λ (y : StepMade). y ∷ play) (sym same), last.1))
    (stands-cases play made before x rest later)

told-longer : (events : List Event) (play more : List StepMade) (k : ℕ) → PollIsTold events play k → PollIsTold events (play ++ more) k
told-longer events play more k told =
    record { before = told.before; made = told.made; stands = stands-longer play more told.before told.made told.stands; tells = told.tells; for = told.for }

registered-longer : (events : List Event) (play more : List StepMade) (spot : Spot) (k : ℕ) → IsRegistered events play spot k → IsRegistered events (play ++ more) spot k
registered-longer events play more spot k is =
    record { before = is.before; ask = is.ask; stands = stands-longer play more is.before is.ask is.stands; at = is.at; for = is.for }

pub apart-front : (play more : List StepMade) → Apart (play ++ more) → Apart play
apart-front play more apart before other a b spot first second one two =
    apart before other a b spot (stands-longer play more before a first) (stands-longer play more other b second) one two

same-ask : (events : List Event) (before : List StepMade) (j k : ℕ) → IsAskFor events before j → IsAskFor events before k → j ≡ k
same-ask events before j k one two = (some_pair_parts j k one.0 two.0 (sym one.1 ∙ two.1)).0

same-registration : (events : List Event) (play : List StepMade) (spot : Spot) (j k : ℕ) → Apart play → IsRegistered events play spot j → IsRegistered events play spot k → j ≡ k
same-registration events play spot j k apart one two =
    let same = apart one.before two.before one.ask two.ask spot one.stands two.stands one.at two.at in
    same-ask events two.before j k (subst (λ (before : List StepMade). IsAskFor events before j) same one.for) two.for

-- a step is for one event at most
for-one : (events : List Event) (before : List StepMade) (step : Step) (j k : ℕ) → Apart before → IsFor events before step j → IsFor events before step k → j ≡ k
for-one events before (steps.Sem object (sem_ops.PollArm waits)) j k apart one two = same-ask events before j k one two
for-one events before (steps.Sem object (sem_ops.PollEnd place)) j k apart one two = same-registration events before (spots.Sem object place) j k apart one two
for-one events before (steps.Sem object (sem_ops.PollQuit place)) j k apart one two = same-registration events before (spots.Sem object place) j k apart one two
for-one events before (steps.Msgq object (msgq_ops.PollArm waits)) j k apart one two = same-ask events before j k one two
for-one events before (steps.Msgq object (msgq_ops.PollEnd place)) j k apart one two = same-registration events before (spots.Msgq object place) j k apart one two
for-one events before (steps.Msgq object (msgq_ops.PollQuit place)) j k apart one two = same-registration events before (spots.Msgq object place) j k apart one two
for-one events before (steps.LookSignal object false) j k apart one two = same-ask events before j k one two
for-one events before (steps.LookSignal object true) j k apart one two = same_Some j k (sym one ∙ two)
for-one events before step j k apart one two = absurd one

-- those who were asked, and those who are still to be
pub record Asked (events : List Event) (play : List StepMade) (marks : List Mark) : Type 0 where
  pub done : List (ℕ × Event)
  pub whole : events_from 0 events ≡ done ++ to_ask 0 events marks
  pub each : AllZip (λ asked made. names asked.1 made ≡ true) done (asks play)

-- what holds of a poll with this play, this alarm and these marks
pub record Kept (timeout : Timeout) (events : List Event) (play : List StepMade) (alarm : Alarm) (marks : List Mark) : Type 0 where
  pub size : length marks ≡ MOST_EVENTS
  pub asked : Asked events play marks
  pub ready : (k : ℕ) → slice_get marks k ≡ Some Ready → PollIsTold events play k
  pub told : (k : ℕ) → PollIsTold events play k → slice_get marks k ≡ Some Ready
  pub armed : (k : ℕ) (event : Event) (mark : Mark) (spot : Spot) → slice_get events k ≡ Some event → slice_get marks k ≡ Some mark →
      spot_for event mark ≡ Some spot → IsRegistered events play spot k
  pub same : (test : Spot → Bool) → count_by test (registrations play) ≡ count_by test (endings play) + count_by test (standing events marks)
  pub each : EachIsForOne events play
  pub tells : list_any tells_ready play ≡ list_any is_ready marks
  pub ended : list_any is_alarm_end play ≡ is_ended alarm
  pub known : AreKnown events marks
  pub timed : EachIsInTime timeout events play
  pub alarmed : KeepsItsAlarm timeout play
  pub due : (moment : ℕ) → alarm ≡ Due moment → IsDue play moment
  pub set_due : (moment : ℕ) → IsDue play moment → list_any is_alarm_end play ≡ false → alarm ≡ Due moment
  pub left : (k : ℕ) (spot : Spot) → IsRegistered events play spot k → Standing events marks spot k ⊎ Contains (endings play) spot
  pub stands : is_over play ≡ false → (k : ℕ) (spot : Spot) → IsRegistered events play spot k → Standing events marks spot k

cons-one : (o : Option Spot) → cons_option o [] ≡ option_to_list o
cons-one None = refl
cons-one (Some x) = refl

-- what is counted of a play with one step more
count-more : (test : Spot → Bool) (at : StepMade → Option Spot) (play : List StepMade) (made : StepMade) →
    count_by test (filter_map at (play ++ made ∷ [])) ≡ count_by test (filter_map at play) + count_by test (option_to_list (at made))
count-more test at play made =
    ap (λ (xs : List Spot). count_by test xs) (filter_map-append at play (made ∷ []))
    ∙ count-append test (filter_map at play) (filter_map at (made ∷ []))
    ∙ ap (λ (xs : List Spot). count_by test (filter_map at play) + count_by test xs) (cons-one (at made))

asks-more : (play : List StepMade) (made : StepMade) → is_ask made ≡ true → asks (play ++ made ∷ []) ≡ asks play ++ made ∷ []
asks-more play made is = filter-append is_ask play (made ∷ []) ∙ ap (λ (b : Bool). asks play ++ cond b (made ∷ []) []) is

asks-same : (play : List StepMade) (made : StepMade) → is_ask made ≡ false → asks (play ++ made ∷ []) ≡ asks play
asks-same play made is = filter-append is_ask play (made ∷ []) ∙ ap (λ (b : Bool). asks play ++ cond b (made ∷ []) []) is ∙ append-nil (asks play)

abbrev pub Named : ℕ × Event → StepMade → Type 0
Named asked made = names asked.1 made ≡ true

pub asked-more : (events : List Event) (play : List StepMade) (marks : List Mark) (k : ℕ) (made : StepMade) (new : Mark) → Asked events play marks →
    (next : AsksNext 0 events marks k k) → is_ask made ≡ true → names next.event made ≡ true → is_unasked new ≡ false → Asked events (play ++ made ∷ []) (set marks k new)
asked-more events play marks k made new asked next is named was =
    let one : List (ℕ × Event) = (k, next.event) ∷ [] in
    record {
      done = asked.done ++ one;
      whole = asked.whole ∙ ap (λ (xs : List (ℕ × Event)). asked.done ++ xs) next.whole
          ∙ sym (append_assoc asked.done one next.rest)
          ∙ ap (λ (xs : List (ℕ × Event)). (asked.done ++ one) ++ xs) (sym (next.next new was));
      each = subst (λ (xs : List StepMade). AllZip Named (asked.done ++ one) xs) (sym (asks-more play made is))
          (zip-push Named asked.done (asks play) (k, next.event) made asked.each named);
    }

pub asked-same : (events : List Event) (play : List StepMade) (marks new : List Mark) (made : StepMade) → Asked events play marks → is_ask made ≡ false →
    to_ask 0 events new ≡ to_ask 0 events marks → Asked events (play ++ made ∷ []) new
asked-same events play marks new made asked is same =
    record {
      done = asked.done;
      whole = asked.whole ∙ ap (λ (xs : List (ℕ × Event)). asked.done ++ xs) (sym same);
      each = subst (λ (xs : List StepMade). AllZip Named asked.done xs) (sym (asks-same play made is)) asked.each;
    }

pub zip-length : {A B : Type 0} (R : A → B → Type 0) (xs : List A) (ys : List B) → AllZip R xs ys → length xs ≡ length ys
zip-length R [] [] all = refl
zip-length R [] (y ∷ ys) all = absurd all
zip-length R (x ∷ xs) [] all = absurd all
zip-length R (x ∷ xs) (y ∷ ys) all = ap suc (zip-length R xs ys all.1)

pub slice_get-here : {X : Type 0} (xs : List X) (y : X) (ys : List X) → slice_get (xs ++ y ∷ ys) (length xs) ≡ Some y
slice_get-here [] y ys = refl
slice_get-here (x ∷ xs) y ys = slice_get-here xs y ys

-- the event that is asked next, by what was asked
pub asked-next : (events : List Event) (play : List StepMade) (marks : List Mark) (k : ℕ) → Asked events play marks → AsksNext 0 events marks k k → IsAskFor events play k
asked-next events play marks k asked next =
    let whole = asked.whole ∙ ap (λ (xs : List (ℕ × Event)). asked.done ++ xs) next.whole in
    let many : length asked.done ≡ length (asks play) = zip-length Named asked.done (asks play) asked.each in (
      next.event,
      ap (λ (xs : List (ℕ × Event)). slice_get xs (length (asks play))) whole
          ∙ ap (λ (n : ℕ). slice_get (asked.done ++ (k, next.event) ∷ next.rest) n) (sym many)
          ∙ slice_get-here asked.done (k, next.event) next.rest,
    )

ready-mark : (mark : Mark) → is_ready mark ≡ true → mark ≡ Ready
ready-mark Ready is = refl
ready-mark mark is = absurd (cc)

or-swap : (a b : Bool) → (a || (b || false)) ≡ (b || a)
or-swap true true = refl
or-swap true false = refl
or-swap false true = refl
or-swap false false = refl

or-false : (a : Bool) → (a || false) ≡ a
or-false true = refl
or-false false = refl

timed-more : (timeout : Timeout) (events : List Event) (play : List StepMade) (made : StepMade) → EachIsInTime timeout events play → IsInTime timeout events play made → EachIsInTime timeout events (play ++ made ∷ [])
timed-more timeout events play made timed time before x stands = ⊎_elim
    (λ (at : StandsAt play before x). timed before x at)
    (λ (last : (before ≡ play) × (x ≡ made)).
    subst (λ (b : List StepMade). IsInTime timeout events b x) (sym last.0) (subst (λ (y : StepMade). IsInTime timeout events play y) (sym last.1) time))
    (stands-cases play made before x stands.rest stands.whole)

alarmed-more : (timeout : Timeout) (play : List StepMade) (made : StepMade) → KeepsItsAlarm timeout play → IsAlarmed timeout play made → KeepsItsAlarm timeout (play ++ made ∷ [])
alarmed-more timeout play made alarmed new before x stands = ⊎_elim
    (λ (at : StandsAt play before x). alarmed before x at)
    (λ (last : (before ≡ play) × (x ≡ made)).
    subst (λ (b : List StepMade). IsAlarmed timeout b x) (sym last.0) (subst (λ (y : StepMade). IsAlarmed timeout play y) (sym last.1) new))
    (stands-cases play made before x stands.rest stands.whole)

due-longer : (play more : List StepMade) (moment : ℕ) → IsDue play moment → IsDue (play ++ more) moment
due-longer play more moment due = record {
  ticks = due.ticks;
  place = due.place;
  stands = stands-longer play more [] (steps.Clock (clock_ops.Alarm due.ticks), step_replies.Clock (clock_replies.At moment) due.place) due.stands;
}

-- what a play has ended is ended in each longer one, and what its last step ends too
ended-longer : (play : List StepMade) (made : StepMade) (spot : Spot) → Contains (endings play) spot → Contains (endings (play ++ made ∷ [])) spot
ended-longer play made spot was =
    subst (λ (xs : List Spot). Contains xs spot) (sym (filter_map-append ended_at play (made ∷ []))) (Contains-append_left (endings play) (endings (made ∷ [])) spot was)

ended-last : (play : List StepMade) (made : StepMade) (spot : Spot) → ended_at made ≡ Some spot → Contains (endings (play ++ made ∷ [])) spot
ended-last play made spot is =
    let here : Contains (endings (made ∷ [])) spot = subst (λ (o : Option Spot). Contains (cons_option o []) spot) (sym is) (0, omega arith, refl) in
    subst (λ (xs : List Spot). Contains xs spot) (sym (filter_map-append ended_at play (made ∷ []))) (Contains-append_right (endings play) (endings (made ∷ [])) spot here)

-- where no step of a play with one more is such a step, none of the play is, nor the last
pub any-front : (test : StepMade → Bool) (play : List StepMade) (made : StepMade) → list_any test (play ++ made ∷ []) ≡ false → (list_any test play ≡ false) × (test made ≡ false)
any-front test play made none =
    let both = or_parts (list_any test play) (test made || false) (sym (list_any-append test play (made ∷ [])) ∙ none) in
    (both.0, (or_parts (test made) false both.1).0)

over-front : (play : List StepMade) (made : StepMade) → is_over (play ++ made ∷ []) ≡ false → (is_over play ≡ false) × (tells_ready made ≡ false)
over-front play made unended =
    let both = or_parts (list_any tells_ready (play ++ made ∷ [])) (list_any is_alarm_end (play ++ made ∷ [])) unended in
    let told = any-front tells_ready play made both.0 in
    (or_from (list_any tells_ready play) (list_any is_alarm_end play) told.0 (any-front is_alarm_end play made both.1).0, told.1)

-- a step for an event, whose reply gives the event a new mark
pub kept-marked : (timeout : Timeout) (events : List Event) (play : List StepMade) (alarm : Alarm) (marks : List Mark) (made : StepMade) (k : ℕ) (event : Event) (mark : Mark) →
    Kept timeout events play alarm marks → Apart play → slice_get events k ≡ Some event → slice_get marks k ≡ Some mark → is_ready mark ≡ false →
    Marks event mark made → IsFor events play made.0 k → Asked events (play ++ made ∷ []) (set marks k (mark_of made.1)) →
    ((ticks : ℕ) → timeout ≡ Ticks ticks → play ≡ [] → ⊥) → may_reply made ≡ true → IsInTime timeout events play made →
    Kept timeout events (play ++ made ∷ []) (alarm_after alarm made.1) (set marks k (mark_of made.1))
kept-marked timeout events play alarm marks made k event mark kept apart there marked unready says for asked later may time =
    let new = mark_of made.1 in
    let longer : List StepMade = play ++ made ∷ [] in
    let within : k < length marks = slice_get_within marks k mark marked in
    let here : (j : ℕ) → k ≡ j → slice_get (set marks k new) j ≡ Some new =
    λ j same. slice_get-set marks k new j within ∙ cond-true (eqb k j) (Some new) (slice_get marks j) (eq-eqb k j same) in
    let aside : (j : ℕ) → (k ≡ j → ⊥) → slice_get (set marks k new) j ≡ slice_get marks j =
    λ j other. slice_get-set marks k new j within ∙ cond-false (eqb k j) (Some new) (slice_get marks j) (ne_eqb k j other) in
    record {
      size = length-set marks k new ∙ kept.size;
      asked = asked;
      ready = λ j is. ⊎_elim
          (λ (same : k ≡ j).
          let new_ready : new ≡ Ready = same_Some new Ready (sym (here j same) ∙ is) in
          record {
            before = play;
            made = made;
            stands = stands-last play made;
            tells = says.agrees ∙ ap is_ready new_ready;
            for = subst (λ (x : ℕ). IsFor events play made.0 x) same for;
          })
          (λ (other : k ≡ j → ⊥). told-longer events play (made ∷ []) j (kept.ready j (sym (aside j other) ∙ is)))
          (cases_eq k j);
      told = λ j told. ⊎_elim
          (λ (at : StandsAt play told.before told.made).
          let was : slice_get marks j ≡ Some Ready = kept.told j (record { before = told.before; made = told.made; stands = at; tells = told.tells; for = told.for }) in
          aside j (λ (same : k ≡ j).
          let so : mark ≡ Ready = same_Some mark Ready (sym marked ∙ ap (λ (x : ℕ). slice_get marks x) same ∙ was) in
          both_ways (is_ready mark) unready (ap is_ready so)) ∙ was)
          (λ (last : (told.before ≡ play) × (told.made ≡ made)).
          let then : IsFor events play made.0 j =
          subst (λ (x : StepMade). IsFor events play x.0 j) last.1 (subst (λ (before : List StepMade). IsFor events before told.made.0 j) last.0 told.for) in
          let tells : tells_ready made ≡ true = ap tells_ready (sym last.1) ∙ told.tells in
          here j (for-one events play made.0 k j apart for then) ∙ ap (λ (m : Mark). Some m) (ready-mark new (sym says.agrees ∙ tells)))
          (stands-cases play made told.before told.made told.stands.rest told.stands.whole);
      armed = λ j e m spot at marked_so is. ⊎_elim
          (λ (same : k ≡ j).
          let event_so : event ≡ e = same_Some event e (sym there ∙ ap (λ (x : ℕ). slice_get events x) same ∙ at) in
          let mark_so : new ≡ m = same_Some new m (sym (here j same) ∙ marked_so) in
          let registered : registered_at made ≡ Some spot = says.taken ∙ ap (λ (x : Event). spot_for x new) event_so ∙ ap (λ (x : Mark). spot_for e x) mark_so ∙ is in
          record {
            before = play;
            ask = made;
            stands = stands-last play made;
            at = registered;
            for = registered-for events play made.0 made.1 spot j registered (subst (λ (x : ℕ). IsFor events play made.0 x) same for);
          })
          (λ (other : k ≡ j → ⊥). registered-longer events play (made ∷ []) spot j (kept.armed j e m spot at (sym (aside j other) ∙ marked_so) is))
          (cases_eq k j);
      same = λ test.
          let one = count-more test registered_at play made in
          let two = count-more test ended_at play made in
          let three = ap (λ (o : Option Spot). count_by test (option_to_list o)) says.taken in
          let four = ap (λ (o : Option Spot). count_by test (option_to_list o)) says.left in
          let five = standing-set test events marks k event mark new there marked in
          let six = kept.same test in
          omega (arith, one, two, three, four, five, six);
      each = λ before x stands free. ⊎_elim
          (λ (at : StandsAt play before x). kept.each before x at free)
          (λ (last : (before ≡ play) × (x ≡ made)).
          subst (λ (b : List StepMade). IsForOne events b x) (sym last.0) (subst (λ (y : StepMade). IsForOne events play y) (sym last.1) (record {
            place = k;
            event = event;
            for = for;
            only = λ j then. for-one events play made.0 j k apart then for;
            there = there;
            named = says.named;
          })))
          (stands-cases play made before x stands.rest stands.whole);
      tells = list_any-append tells_ready play (made ∷ []) ∙ or-swap (list_any tells_ready play) (tells_ready made)
          ∙ ap (λ (b : Bool). b || list_any tells_ready play) says.agrees ∙ ap (λ (b : Bool). is_ready new || b) kept.tells
          ∙ sym (any_ready-set marks k mark new marked unready);
      ended = list_any-append is_alarm_end play (made ∷ []) ∙ ap (λ (b : Bool). list_any is_alarm_end play || (b || false)) (free-no_end made.0 made.1 says.free)
          ∙ or-false (list_any is_alarm_end play) ∙ kept.ended ∙ ap is_ended (sym (says.still alarm));
      known = known-set events marks k event new kept.known there says.kind;
      timed = timed-more timeout events play made kept.timed time;
      alarmed = alarmed-more timeout play made kept.alarmed (record {
        begins = λ ticks is none. absurd (later ticks is none);
        sets = λ ticks is. absurd (both_ways (is_of_clock made) says.free (ap (λ (step : Step). is_of_clock (step, made.1)) is));
        ends = λ moment is. absurd (both_ways (is_of_clock made) says.free (ap (λ (step : Step). is_of_clock (step, made.1)) is));
      });
      due = λ moment is. due-longer play (made ∷ []) moment (kept.due moment (sym (says.still alarm) ∙ is));
      set_due = λ moment set unended.
          let first : StepMade = (steps.Clock (clock_ops.Alarm set.ticks), step_replies.Clock (clock_replies.At moment) set.place) in
          ⊎_elim
          (λ (at : StandsAt play [] first). says.still alarm ∙ kept.set_due moment (record { ticks = set.ticks; place = set.place; stands = at }) (any-front is_alarm_end play made unended).0)
          (λ (last : ([] ≡ play) × (first ≡ made)). absurd (both_ways (is_of_clock made) says.free (ap is_of_clock (sym last.1))))
          (stands-cases play made [] first set.stands.rest set.stands.whole);
      left = λ j spot registered. ⊎_elim
          (λ (at : StandsAt play registered.before registered.ask). ⊎_elim
          (λ (was : Standing events marks spot j). ⊎_elim
          (λ (same : k ≡ j).
          let event_so : event ≡ was.event = same_Some event was.event (sym there ∙ ap (λ (x : ℕ). slice_get events x) same ∙ was.there) in
          let mark_so : mark ≡ was.mark = same_Some mark was.mark (sym marked ∙ ap (λ (x : ℕ). slice_get marks x) same ∙ was.marked) in
          inr (ended-last play made spot (says.left ∙ ap (λ (x : Event). spot_for x mark) event_so ∙ ap (λ (x : Mark). spot_for was.event x) mark_so ∙ was.is)))
          (λ (other : k ≡ j → ⊥). inl (record { event = was.event; mark = was.mark; there = was.there; marked = aside j other ∙ was.marked; is = was.is }))
          (cases_eq k j))
          (λ (was : Contains (endings play) spot). inr (ended-longer play made spot was))
          (kept.left j spot (record { before = registered.before; ask = registered.ask; stands = at; at = registered.at; for = registered.for })))
          (λ (last : (registered.before ≡ play) × (registered.ask ≡ made)).
          let at : registered_at made ≡ Some spot = ap registered_at (sym last.1) ∙ registered.at in
          let turn : IsAskFor events play j = subst (λ (p : List StepMade). IsAskFor events p j) last.0 registered.for in
          let then : IsFor events play made.0 j = ask-for events play made.0 made.1 j (registered-asks made.0 made.1 spot at) turn in
          let same : k ≡ j = for-one events play made.0 k j apart for then in
          inl (record { event = event; mark = new; there = ap (λ (x : ℕ). slice_get events x) (sym same) ∙ there; marked = here j same; is = sym says.taken ∙ at }))
          (stands-cases play made registered.before registered.ask registered.stands.rest registered.stands.whole);
      stands = λ unended j spot registered.
          let before = over-front play made unended in
          let ended : ended_at made ≡ Some spot → ⊥ = λ at.
          both_ways (is_over play) before.0 (time.quitting (ended-tells made.0 made.1 spot at may before.1)) in
          ⊎_elim
          (λ (at : StandsAt play registered.before registered.ask).
          let was = kept.stands before.0 j spot (record { before = registered.before; ask = registered.ask; stands = at; at = registered.at; for = registered.for }) in
          ⊎_elim
          (λ (same : k ≡ j).
          let event_so : event ≡ was.event = same_Some event was.event (sym there ∙ ap (λ (x : ℕ). slice_get events x) same ∙ was.there) in
          let mark_so : mark ≡ was.mark = same_Some mark was.mark (sym marked ∙ ap (λ (x : ℕ). slice_get marks x) same ∙ was.marked) in
          absurd (ended (says.left ∙ ap (λ (x : Event). spot_for x mark) event_so ∙ ap (λ (x : Mark). spot_for was.event x) mark_so ∙ was.is)))
          (λ (other : k ≡ j → ⊥). record { event = was.event; mark = was.mark; there = was.there; marked = aside j other ∙ was.marked; is = was.is })
          (cases_eq k j))
          (λ (last : (registered.before ≡ play) × (registered.ask ≡ made)).
          let at : registered_at made ≡ Some spot = ap registered_at (sym last.1) ∙ registered.at in
          let turn : IsAskFor events play j = subst (λ (p : List StepMade). IsAskFor events p j) last.0 registered.for in
          let then : IsFor events play made.0 j = ask-for events play made.0 made.1 j (registered-asks made.0 made.1 spot at) turn in
          let same : k ≡ j = for-one events play made.0 k j apart for then in
          record {
            event = event;
            mark = new;
            there = ap (λ (x : ℕ). slice_get events x) (sym same) ∙ there;
            marked = here j same;
            is = sym says.taken ∙ at;
          })
          (stands-cases play made registered.before registered.ask registered.stands.rest registered.stands.whole);
    }

-- a step of the clock leaves the marks
pub kept-clock : (timeout : Timeout) (events : List Event) (play : List StepMade) (alarm new : Alarm) (marks : List Mark) (op : ClockOp) (reply : StepReply) → Kept timeout events play alarm marks →
    is_of_alarm (steps.Clock op, reply) ≡ true → (is_ended alarm || is_alarm_end (steps.Clock op, reply)) ≡ is_ended new → IsInTime timeout events play (steps.Clock op, reply) → IsAlarmed timeout play (steps.Clock op, reply) →
    ((moment : ℕ) → new ≡ Due moment → IsDue (play ++ (steps.Clock op, reply) ∷ []) moment) →
    ((moment : ℕ) → IsDue (play ++ (steps.Clock op, reply) ∷ []) moment → list_any is_alarm_end (play ++ (steps.Clock op, reply) ∷ []) ≡ false → new ≡ Due moment) → Kept timeout events (play ++ (steps.Clock op, reply) ∷ []) new marks
kept-clock timeout events play alarm new marks op reply kept ours ends time alarmed due set_due =
    let made : StepMade = (steps.Clock op, reply) in
    let says : OfClock made = of-clock op reply in
    record {
      size = kept.size;
      asked = asked-same events play marks marks made kept.asked says.no_ask refl;
      ready = λ j is. told-longer events play (made ∷ []) j (kept.ready j is);
      told = λ j told. ⊎_elim
          (λ (at : StandsAt play told.before told.made). kept.told j (record { before = told.before; made = told.made; stands = at; tells = told.tells; for = told.for }))
          (λ (last : (told.before ≡ play) × (told.made ≡ made)). absurd (both_ways (tells_ready made) says.untold (ap tells_ready (sym last.1) ∙ told.tells)))
          (stands-cases play made told.before told.made told.stands.rest told.stands.whole);
      armed = λ j e m spot at marked is. registered-longer events play (made ∷ []) spot j (kept.armed j e m spot at marked is);
      same = λ test.
          let one = count-more test registered_at play made in
          let two = count-more test ended_at play made in
          let six = kept.same test in
          omega (arith, one, two, six);
      each = λ before x stands free. ⊎_elim
          (λ (at : StandsAt play before x). kept.each before x at free)
          (λ (last : (before ≡ play) × (x ≡ made)). absurd (both_ways (is_of_alarm made) (ap is_of_alarm (sym last.1) ∙ free) ours))
          (stands-cases play made before x stands.rest stands.whole);
      tells = list_any-append tells_ready play (made ∷ []) ∙ or-false (list_any tells_ready play) ∙ kept.tells;
      ended = list_any-append is_alarm_end play (made ∷ []) ∙ ap (λ (b : Bool). list_any is_alarm_end play || b) (or-false (is_alarm_end made))
          ∙ ap (λ (b : Bool). b || is_alarm_end made) kept.ended ∙ ends;
      known = kept.known;
      timed = timed-more timeout events play made kept.timed time;
      alarmed = alarmed-more timeout play made kept.alarmed alarmed;
      due = due;
      set_due = set_due;
      left = λ j spot registered. ⊎_elim
          (λ (at : StandsAt play registered.before registered.ask). ⊎_elim
          (λ (was : Standing events marks spot j). inl was)
          (λ (was : Contains (endings play) spot). inr (ended-longer play made spot was))
          (kept.left j spot (record { before = registered.before; ask = registered.ask; stands = at; at = registered.at; for = registered.for })))
          (λ (last : (registered.before ≡ play) × (registered.ask ≡ made)).
          let at : None ≡ Some spot = sym says.none ∙ ap registered_at (sym last.1) ∙ registered.at in
          absurd (cc))
          (stands-cases play made registered.before registered.ask registered.stands.rest registered.stands.whole);
      stands = λ unended j spot registered. ⊎_elim
          (λ (at : StandsAt play registered.before registered.ask).
          kept.stands (over-front play made unended).0 j spot (record { before = registered.before; ask = registered.ask; stands = at; at = registered.at; for = registered.for }))
          (λ (last : (registered.before ≡ play) × (registered.ask ≡ made)).
          let at : None ≡ Some spot = sym says.none ∙ ap registered_at (sym last.1) ∙ registered.at in
          absurd (cc))
          (stands-cases play made registered.before registered.ask registered.stands.rest registered.stands.whole);
    }
