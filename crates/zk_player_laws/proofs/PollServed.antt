-- Over legal histories the plays of polls are served, and so keep their laws.
use Rattle.std.proofs.Common.{◌≡◌, ◌≤◌, ℕ, zero, suc, Bool, true, false, Option, Some, None, List, [], ◌∷◌, ◌++◌, length, take, slice_get, option_map, All, refl, sym, ap, subst, ◌∙◌, append_assoc}
use Rattle.std.specs.List.{AllZip}
use Rattle.std.specs.Option.{option_and_then}
use Rattle.std.proofs.lemmas.List.{take_at, append_cancel_left}
use Rattle.std.proofs.lemmas.List.Elements.{All-nil, All-cons, All-head, All-tail, All-append, All-weaker}
use Rattle.std.proofs.lemmas.Bool.{and_parts}
use Rattle.std.proofs.lemmas.Option.{same_Some, some_pair_parts}
use Rattle.zk_base.specs.declared.ids.Entry.{Entry}
use Rattle.zk_base.specs.History.{IsEntry}
use Rattle.zk_base.specs.Legal.{Replays, state_after}
use Rattle.zk_base.proofs.Histories.{Replays-rest}
use Rattle.zk_base.proofs.Lists.{All-at, All-front, All-back}
use Rattle.zk_line.specs.declared.events.Event.{Event}
use Rattle.zk_line.specs.declared.events.TheConstants.{MOST_EVENTS}
use Rattle.zk_line.specs.declared.types.Call.TheVariants as calls
use Rattle.zk_line.specs.Calls.{said_of}
use Rattle.zk_line.specs.Checks.{size_said}
use Rattle.zk_line.specs.Few.{is_few}
use Rattle.zk_line.specs.Fits.{args_fit}
use Rattle.zk_words.specs.Table.{call_row}
use Rattle.zk_model_wait.specs.declared.msgq.MsgqOp.{MsgqOp}
use Rattle.zk_model_wait.specs.declared.msgq.MsgqOp.TheVariants as msgq_ops
use Rattle.zk_model_wait.specs.declared.msgq.MsgqReply.{MsgqReply}
use Rattle.zk_model_wait.specs.declared.msgq.MsgqReply.TheVariants as msgq_replies
use Rattle.zk_model_wait.specs.declared.sem.SemOp.{SemOp}
use Rattle.zk_model_wait.specs.declared.sem.SemOp.TheVariants as sem_ops
use Rattle.zk_model_wait.specs.declared.sem.SemReply.{SemReply}
use Rattle.zk_model_wait.specs.declared.sem.SemReply.TheVariants as sem_replies
use Rattle.zk_model_wait.specs.Clock.{new_clock, clock_machine}
use Rattle.zk_model_wait.specs.MsgqLaws.{polls as polls_msgq}
use Rattle.zk_model_wait.specs.SemLaws.{polls as polls_sem}
use Rattle.zk_scenario.specs.Content.{Content}
use Rattle.zk_scenario.specs.Players.{calls_of}
use Rattle.zk_scenario.specs.Valid.{IsValid}
use Rattle.zk_words.specs.declared.timeout.Timeout.{Timeout}
use Rattle.zk_words.specs.declared.word.Word.{Word}
use Rattle.zk_words.specs.declared.word.Word.TheVariants as words
use Rattle.zk_worker.specs.declared.answers.Answered.{Answered}
use Rattle.zk_worker.specs.declared.frames.Mark.{Mark}
use Rattle.zk_worker.specs.declared.frames.Progress.{Progress}
use Rattle.zk_worker.specs.declared.frames.Stage.{Stage}
use Rattle.zk_worker.specs.declared.frames.Stage.TheVariants.{Start}
use Rattle.zk_worker.specs.declared.steps.Spot.{Spot}
use Rattle.zk_worker.specs.declared.steps.Spot.TheVariants as spots
use Rattle.zk_worker.specs.declared.steps.Step.{Step}
use Rattle.zk_worker.specs.declared.steps.Step.TheVariants as steps
use Rattle.zk_worker.specs.declared.steps.StepReply.TheVariants as step_replies
use Rattle.zk_worker.specs.Families.{entry_at}
use Rattle.zk_worker.specs.Checks.{is_oops}
use Rattle.zk_worker.specs.Follows.{StepMade, Stands}
use Rattle.zk_worker.specs.declared.frames.Progress.TheVariants.{Goes, Answers}
use Rattle.zk_worker.specs.Polls.{poll_attempts, ask_step, watch_step, drop_step}
use Rattle.zk_player_laws.specs.PollLaws.{Leads, LeadsOn, StandsAt, AreServed, may_reply, registered_at}
use Rattle.zk_player_laws.specs.PollLogs.{IsPollOf, ShowsLegal, IsLawfulPollOf, EachPollKeepsItsLaws}
use Rattle.zk_player_laws.specs.PollReplies.{is_of_alarm}
use Rattle.zk_worker.specs.Shown.{Shown, shown_at, is_look, ShowsLog}
use Rattle.zk_line.specs.declared.events.Event.TheVariants as events_of
use Rattle.zk_worker.specs.declared.frames.Mark.TheVariants as marks_of
use Rattle.zk_worker.specs.Refs.{ref_object}
use Rattle.zk_worker.specs.declared.frames.Role.TheVariants.{Script}
use Rattle.zk_worker.specs.Ranges.{is_free_at}
use Rattle.zk_worker.proofs.FreeCalls.{call_fits-next}
use Rattle.zk_player_laws.proofs.PollLaws.{poll_laws}
use Rattle.zk_player_laws.proofs.PollLogs.{each_poll_is_played}
use Rattle.zk_player_laws.proofs.PollPlays.{Apart}
use Rattle.zk_worker.proofs.PollSteps.{poll_attempts-all, few_events}
use Rattle.zk_player_laws.proofs.PollTells.{sem_tells_polls, msgq_tells_polls, clock_tells_polls}

-- a step that a poll may make
abbrev pub is_of_poll : Step → Bool
is_of_poll (steps.Clock op) = is_of_alarm op
is_of_poll (steps.Sem object op) = polls_sem op
is_of_poll (steps.Msgq object op) = polls_msgq op
is_of_poll (steps.LookSignal object must) = true
is_of_poll step = false

abbrev pub OfPoll : Step → Type 0
OfPoll step = is_of_poll step ≡ true

same-of-poll : (own step : Step) → OfPoll own → Some own ≡ Some step → OfPoll step
same-of-poll own step of is = subst OfPoll (same_Some own step is) of

ask-of-poll : (registers : Bool) (event : Event) (step : Step) → Unit {0} → ask_step registers event ≡ Some step → OfPoll step
ask-of-poll registers events_of.Ignore step any is = absurd (cc)
ask-of-poll registers (events_of.Sem sem) step any is = same-of-poll (steps.Sem (ref_object sem) (sem_ops.PollArm registers)) step refl is
ask-of-poll registers (events_of.Msgq queue) step any is = same-of-poll (steps.Msgq (ref_object queue) (msgq_ops.PollArm registers)) step refl is
ask-of-poll registers (events_of.Sig signal) step any is = same-of-poll (steps.LookSignal (ref_object signal) false) step refl is

watch-of-poll : (event : Event) (mark : Mark) (step : Step) → Unit {0} → watch_step event mark ≡ Some step → OfPoll step
watch-of-poll (events_of.Sem sem) (marks_of.Armed place) step any is = same-of-poll (steps.Sem (ref_object sem) (sem_ops.PollEnd place)) step refl is
watch-of-poll (events_of.Msgq queue) (marks_of.Armed place) step any is = same-of-poll (steps.Msgq (ref_object queue) (msgq_ops.PollEnd place)) step refl is
watch-of-poll (events_of.Sig signal) mark step any is = same-of-poll (steps.LookSignal (ref_object signal) true) step refl is
watch-of-poll event mark step any is = absurd (cc)

drop-of-poll : (event : Event) (mark : Mark) (step : Step) → Unit {0} → drop_step event mark ≡ Some step → OfPoll step
drop-of-poll (events_of.Sem sem) (marks_of.Armed place) step any is = same-of-poll (steps.Sem (ref_object sem) (sem_ops.PollQuit place)) step refl is
drop-of-poll (events_of.Msgq queue) (marks_of.Armed place) step any is = same-of-poll (steps.Msgq (ref_object queue) (msgq_ops.PollQuit place)) step refl is
drop-of-poll event mark step any is = absurd (cc)

all-units : (events : List Event) → All (λ (event : Event). Unit {0}) events
all-units [] = All-nil (λ (event : Event). Unit {0})
all-units (event ∷ events) = All-cons (λ (event : Event). Unit {0}) event events tt (all-units events)

-- each step of a poll is one that a poll may make
leads-of-poll : (word : Word) (timeout : Timeout) (events : List Event) (stage : Stage) (made : StepMade) (progress : Progress) → Leads word timeout events stage made progress → OfPoll made.0
leads-of-poll word timeout events stage made progress leads =
    All-at OfPoll (poll_attempts timeout events stage) leads.index made.0
    (poll_attempts-all OfPoll (λ (event : Event). Unit {0}) ask-of-poll watch-of-poll drop-of-poll (λ ticks. refl) (λ moment. refl) timeout events stage (all-units events))
    leads.ahead

abbrev pub MadeOfPoll : StepMade → Type 0
MadeOfPoll made = OfPoll made.0

pub led-of-poll : (word : Word) (timeout : Timeout) (events : List Event) (stage : Stage) (play : List StepMade) (end : Stage) → LeadsOn word timeout events stage play end → All MadeOfPoll play
led-of-poll word timeout events stage [] end led = All-nil MadeOfPoll
led-of-poll word timeout events stage (made ∷ play) end led =
    All-cons MadeOfPoll made play (leads-of-poll word timeout events stage made (Goes led.0) led.1) (led-of-poll word timeout events led.0 play end led.2)

-- an entry at a place, with what stands before it
entry-at : {O R : Type 0} (h : List (Entry O R)) (place : ℕ) (e : Entry O R) → slice_get h place ≡ Some e → (front : List (Entry O R)) × IsEntry h front e
entry-at [] place e is = absurd (cc)
entry-at {O} {R} (x ∷ h) zero e is = ([], record { rest = h; whole = ap (λ (y : Entry O R). y ∷ h) (same_Some x e is) })
entry-at {O} {R} (x ∷ h) (suc place) e is =
    let later = entry-at h place e is in
    (x ∷ later.0, record { rest = later.1.rest; whole = ap (λ (ys : List (Entry O R)). x ∷ ys) later.1.whole })

mapped : {A B : Type 0} (f : A → B) (o : Option A) (y : B) → option_map f o ≡ Some y → (x : A) × (o ≡ Some x) × (f x ≡ y)
mapped f None y is = absurd (cc)
mapped f (Some x) y is = (x, refl, same_Some (f x) y is)

object-entry : {O R : Type 0} (histories : List (List (Entry O R))) (object place : ℕ) (e : Entry O R) → entry_at histories object place ≡ Some e →
    (h : List (Entry O R)) × (slice_get histories object ≡ Some h) × (slice_get h place ≡ Some e)
object-entry {O} {R} histories object place e is = by (slice_get histories object) refl is where
  by : (o : Option (List (Entry O R))) → slice_get histories object ≡ o → option_and_then (λ h. slice_get h place) o ≡ Some e →
      (h : List (Entry O R)) × (slice_get histories object ≡ Some h) × (slice_get h place ≡ Some e)
  by None there is = absurd (cc)
  by (Some h) there is = (h, there, is)

-- a step that stands in what is shown has a reply that a poll can have there
stands-served : (shown : Shown) (spot : Spot) (made : StepMade) → ShowsLegal shown → Stands shown spot made → MadeOfPoll made → may_reply made ≡ true
stands-served shown (spots.Work place) made legal stands of =
    let at = mapped (λ e. (steps.Work e.op, step_replies.Work e.reply place)) (slice_get shown.work place) made stands in
    let never : false ≡ true = ap (λ (m : StepMade). is_of_poll m.0) at.2 ∙ of in absurd (cc)
stands-served shown (spots.Table place) made legal stands of =
    let at = mapped (λ e. (steps.Table e.op, step_replies.Table e.reply place)) (slice_get shown.table place) made stands in
    let never : false ≡ true = ap (λ (m : StepMade). is_of_poll m.0) at.2 ∙ of in absurd (cc)
stands-served shown (spots.Clock place) made legal stands of =
    let at = mapped (λ e. (steps.Clock e.op, step_replies.Clock e.reply place)) (slice_get shown.clock place) made stands in
    let e = at.0 in
    let entry = entry-at shown.clock place e at.1 in
    let replays : Replays clock_machine new_clock (entry.0 ++ e ∷ entry.1.rest) = subst (Replays clock_machine new_clock) entry.1.whole legal.clock.0 in
    let here = (Replays-rest clock_machine new_clock entry.0 (e ∷ entry.1.rest) replays).0 in
    ap may_reply (sym at.2) ∙ clock_tells_polls (state_after clock_machine new_clock entry.0) e.who e.op e.reply place here (ap (λ (m : StepMade). is_of_poll m.0) at.2 ∙ of)
stands-served shown (spots.Sem object place) made legal stands of =
    let at = mapped (λ e. (steps.Sem object e.op, step_replies.Sem object e.reply place)) (entry_at shown.sems object place) made stands in
    let there = object-entry shown.sems object place at.0 at.1 in
    let entry = entry-at there.0 place at.0 there.2 in
    let from = legal.sems object there.0 there.1 in
    ap may_reply (sym at.2) ∙ sem_tells_polls from.0 from.1 from.2 there.0 from.3 entry.0 at.0 entry.1 (ap (λ (m : StepMade). is_of_poll m.0) at.2 ∙ of)
stands-served shown (spots.Msgq object place) made legal stands of =
    let at = mapped (λ e. (steps.Msgq object e.op, step_replies.Msgq object e.reply place)) (entry_at shown.msgqs object place) made stands in
    let there = object-entry shown.msgqs object place at.0 at.1 in
    let entry = entry-at there.0 place at.0 there.2 in
    let from = legal.msgqs object there.0 there.1 in
    ap may_reply (sym at.2) ∙ msgq_tells_polls from.0 there.0 from.1 entry.0 at.0 entry.1 (ap (λ (m : StepMade). is_of_poll m.0) at.2 ∙ of)
stands-served shown (spots.Signal object place) made legal stands of =
    let at = mapped (λ e. (steps.Signal object e.op, step_replies.Signal object e.reply place)) (entry_at shown.signals object place) made stands in
    let never : false ≡ true = ap (λ (m : StepMade). is_of_poll m.0) at.2 ∙ of in absurd (cc)
stands-served shown (spots.Chan object place) made legal stands of =
    let at = mapped (λ e. (steps.Chan object e.op, step_replies.Chan object e.reply place)) (entry_at shown.chans object place) made stands in
    let never : false ≡ true = ap (λ (m : StepMade). is_of_poll m.0) at.2 ∙ of in absurd (cc)
stands-served shown (spots.Obs object place) made legal stands of =
    let at = mapped (λ e. (steps.Obs object e.op, step_replies.Obs object e.reply place)) (entry_at shown.observers object place) made stands in
    let never : false ≡ true = ap (λ (m : StepMade). is_of_poll m.0) at.2 ∙ of in absurd (cc)
stands-served shown (spots.LookItem object flags at) made legal stands of =
    let never : false ≡ true = ap (λ (m : StepMade). is_of_poll m.0) (sym stands) ∙ of in absurd (cc)
stands-served shown (spots.LookSignal object seen) made legal stands of = ap may_reply stands.1

-- what has registered stands where it has
sem-spot : (object place : ℕ) (op : SemOp) (reply : SemReply) (spot : Spot) → registered_at (steps.Sem object op, step_replies.Sem object reply place) ≡ Some spot → spots.Sem object place ≡ spot
sem-spot object place (sem_ops.PollArm waits) sem_replies.Armed spot is = same_Some (spots.Sem object place) spot is
sem-spot object place op reply spot is = absurd (cc)

msgq-spot : (object place : ℕ) (op : MsgqOp) (reply : MsgqReply) (spot : Spot) → registered_at (steps.Msgq object op, step_replies.Msgq object reply place) ≡ Some spot → spots.Msgq object place ≡ spot
msgq-spot object place (msgq_ops.PollArm waits) msgq_replies.Armed spot is = same_Some (spots.Msgq object place) spot is
msgq-spot object place op reply spot is = absurd (cc)

stands-spot : (shown : Shown) (at : Spot) (made : StepMade) (spot : Spot) → Stands shown at made → registered_at made ≡ Some spot → (at ≡ spot) × (is_look at ≡ false)
stands-spot shown (spots.Work place) made spot stands is =
    let from = mapped (λ e. (steps.Work e.op, step_replies.Work e.reply place)) (slice_get shown.work place) made stands in
    let none : None ≡ Some spot = ap registered_at from.2 ∙ is in absurd (cc)
stands-spot shown (spots.Table place) made spot stands is =
    let from = mapped (λ e. (steps.Table e.op, step_replies.Table e.reply place)) (slice_get shown.table place) made stands in
    let none : None ≡ Some spot = ap registered_at from.2 ∙ is in absurd (cc)
stands-spot shown (spots.Clock place) made spot stands is =
    let from = mapped (λ e. (steps.Clock e.op, step_replies.Clock e.reply place)) (slice_get shown.clock place) made stands in
    let none : None ≡ Some spot = ap registered_at from.2 ∙ is in absurd (cc)
stands-spot shown (spots.Sem object place) made spot stands is =
    let from = mapped (λ e. (steps.Sem object e.op, step_replies.Sem object e.reply place)) (entry_at shown.sems object place) made stands in
    (sem-spot object place from.0.op from.0.reply spot (ap registered_at from.2 ∙ is), refl)
stands-spot shown (spots.Msgq object place) made spot stands is =
    let from = mapped (λ e. (steps.Msgq object e.op, step_replies.Msgq object e.reply place)) (entry_at shown.msgqs object place) made stands in
    (msgq-spot object place from.0.op from.0.reply spot (ap registered_at from.2 ∙ is), refl)
stands-spot shown (spots.Signal object place) made spot stands is =
    let from = mapped (λ e. (steps.Signal object e.op, step_replies.Signal object e.reply place)) (entry_at shown.signals object place) made stands in
    let none : None ≡ Some spot = ap registered_at from.2 ∙ is in absurd (cc)
stands-spot shown (spots.Chan object place) made spot stands is =
    let from = mapped (λ e. (steps.Chan object e.op, step_replies.Chan object e.reply place)) (entry_at shown.chans object place) made stands in
    let none : None ≡ Some spot = ap registered_at from.2 ∙ is in absurd (cc)
stands-spot shown (spots.Obs object place) made spot stands is =
    let from = mapped (λ e. (steps.Obs object e.op, step_replies.Obs object e.reply place)) (entry_at shown.observers object place) made stands in
    let none : None ≡ Some spot = ap registered_at from.2 ∙ is in absurd (cc)
stands-spot shown (spots.LookItem object flags at) made spot stands is =
    let none : None ≡ Some spot = ap registered_at (sym stands) ∙ is in absurd (cc)
stands-spot shown (spots.LookSignal object seen) made spot stands is =
    let none : None ≡ Some spot = ap registered_at (sym stands.1) ∙ is in absurd (cc)

-- the spot of a step, by what was made before it
zip-at : {A B : Type 0} (R : A → B → Type 0) (xs : List A) (before : List B) (y : B) (rest : List B) → AllZip R xs (before ++ y ∷ rest) →
    (x : A) × (slice_get xs (length before) ≡ Some x) × R x y
zip-at R [] [] y rest all = absurd all
zip-at R [] (b ∷ before) y rest all = absurd all
zip-at R (x ∷ xs) [] y rest all = (x, refl, all.0)
zip-at R (x ∷ xs) (b ∷ before) y rest all = zip-at R xs before y rest all.1

zip-each : {A B : Type 0} (R : A → B → Type 0) (xs : List A) (ys : List B) → AllZip R xs ys → All (λ y. (x : A) × R x y) ys
zip-each {A} R [] [] all = All-nil (λ y. (x : A) × R x y)
zip-each R [] (y ∷ ys) all = absurd all
zip-each R (x ∷ xs) [] all = absurd all
zip-each {A} R (x ∷ xs) (y ∷ ys) all = All-cons (λ z. (w : A) × R w z) y ys (x, all.0) (zip-each R xs ys all.1)

same-fronts : (made before other : List StepMade) (a b : StepMade) (x y : List StepMade) → made ≡ before ++ a ∷ x → made ≡ other ++ b ∷ y → length before ≡ length other → before ≡ other
same-fronts made before other a b x y one two long =
    sym (take_at before (a ∷ x) (length before) refl) ∙ ap (λ (xs : List StepMade). take (length before) xs) (sym one ∙ two) ∙ take_at other (b ∷ y) (length before) (sym long)

-- the steps of a player that is shown have registered each at a place of its own
shown-apart : (shown : Shown) (number : ℕ) (log : List Spot) (made : List StepMade) → AllZip (Stands shown) log made → ShowsLog shown number log → Apart made
shown-apart shown number log made all shows before other a b spot first second one two =
    let at = zip-at (Stands shown) log before a first.rest (subst (AllZip (Stands shown) log) first.whole all) in
    let to = zip-at (Stands shown) log other b second.rest (subst (AllZip (Stands shown) log) second.whole all) in
    let here = stands-spot shown at.0 a spot at.2 one in
    let there = stands-spot shown to.0 b spot to.2 two in
    let mine = shows.each (length before) at.0 at.1 here.1 in
    let theirs = shows.each (length other) to.0 to.1 there.1 in
    let same : at.0 ≡ to.0 = here.0 ∙ sym there.0 in
    let long = (some_pair_parts number number (length before) (length other) (sym mine ∙ ap (λ (s : Spot). shown_at shown s) same ∙ theirs)).1 in
    same-fronts made before other a b first.rest second.rest first.whole second.whole long

apart-within : (before play rest : List StepMade) → Apart (before ++ (play ++ rest)) → Apart play
apart-within before play rest apart front other a b spot first second one two =
    append_cancel_left before front other (apart (before ++ front) (before ++ other) a b spot (within front a first) (within other b second) one two) where
      within : (front : List StepMade) (x : StepMade) → StandsAt play front x → StandsAt (before ++ (play ++ rest)) (before ++ front) x
      within front x at = record {
        rest = at.rest ++ rest;
        whole = ap (λ (xs : List StepMade). before ++ (xs ++ rest)) at.whole ∙ ap (λ (xs : List StepMade). before ++ xs) (append_assoc front (x ∷ at.rest) rest)
            ∙ sym (append_assoc before front (x ∷ (at.rest ++ rest)));
      }

both-so : (shown : Shown) (play : List StepMade) → ShowsLegal shown → All (λ y. (x : Spot) × Stands shown x y) play → All MadeOfPoll play → All (λ made. may_reply made ≡ true) play
both-so shown [] legal stands of = All-nil (λ made. may_reply made ≡ true)
both-so shown (made ∷ play) legal stands of =
    let P : StepMade → Type 0 = λ y. (x : Spot) × Stands shown x y in
    let here = All-head P made play stands in
    All-cons (λ made. may_reply made ≡ true) made play (stands-served shown here.0 made legal here.1 (All-head MadeOfPoll made play of))
    (both-so shown play legal (All-tail P made play stands) (All-tail MadeOfPoll made play of))

-- steps of polls that stand side by side among those of a player that is shown are served
pub within-served : (number : ℕ) (shown : Shown) (log : List Spot) (made before play rest : List StepMade) → AllZip (Stands shown) log made → ShowsLog shown number log → ShowsLegal shown →
    made ≡ before ++ (play ++ rest) → All MadeOfPoll play → AreServed play
within-served number shown log made before play rest all shows legal whole polls =
    let P : StepMade → Type 0 = λ y. (x : Spot) × Stands shown x y in
    let each : All P (before ++ (play ++ rest)) = subst (All P) whole (zip-each (Stands shown) log made all) in
    let stands : All P play = All-front P play rest (All-back P before (play ++ rest) each) in
    record {
      each = both-so shown play legal stands polls;
      apart = apart-within before play rest (subst Apart whole (shown-apart shown number log made all shows));
    }

-- so is the play of a poll
play-served : (s : Content) (number : ℕ) (shown : Shown) (log : List Spot) (made : List StepMade) (a : Answered) → AllZip (Stands shown) log made → ShowsLog shown number log → ShowsLegal shown →
    (of : IsPollOf s number made a) → AreServed of.play
play-served s number shown log made a all shows legal of =
    let answered = of.answered in
    within-served number shown log made of.before of.play of.rest all shows legal of.whole (subst (All MadeOfPoll) (sym answered.whole)
    (All-append MadeOfPoll answered.front (answered.last ∷ [])
    (led-of-poll a.word of.timeout of.events Start answered.front answered.stage answered.led)
    (All-cons MadeOfPoll answered.last [] (leads-of-poll a.word of.timeout of.events answered.stage answered.last (Answers a.word a.answer) answered.answered) (All-nil MadeOfPoll))))

-- a poll of a valid scenario has eight events at most
pub few-of : (s : Content) (owner next : ℕ) (timeout : Timeout) (events : List Event) → slice_get (calls_of s.scripts owner) next ≡ Some (calls.Poll timeout events) → IsValid s → length events ≤ MOST_EVENTS
few-of s owner next timeout events there valid =
    let said = said_of (calls.Poll timeout events) in
    let form = call_row said.word in
    let free = is_free_at s (Script owner) next in
    let fits = call_fits-next s owner next (calls.Poll timeout events) valid there in
    few_events events (and_parts (is_few events) (args_fit free s.decls (size_said s.decls said.args) form.slots form.rest said.args) fits).0

pub each_poll_keeps_its_laws : EachPollKeepsItsLaws
each_poll_keeps_its_laws s number shown at is valid shows legal =
    All-weaker (λ a. a.word ≡ words.Poll → is_oops a.answer ≡ false → IsPollOf s number is.made a) (λ a. a.word ≡ words.Poll → is_oops a.answer ≡ false → IsLawfulPollOf s number is.made a)
    (λ a played poll passed.
    let of = played poll passed in
    record {
      of = of;
      laws = poll_laws a.word of.timeout of.events (few-of s of.owner of.next of.timeout of.events of.begins.is_call valid) of.play a.answer of.answered (play-served s number shown at.spots is.made a is.stands shows legal of);
    })
    at.answers (each_poll_is_played s number shown at is)
