-- The attempts of a poll are few, and name what is declared.
use Rattle.std.proofs.Common.{◌≡◌, ◌∙◌, ◌⊎◌, inl, inr, ℕ, get_or, zero, suc, ◌+◌, ◌<◌, ◌≤◌, Bool, true, false, cond, Option, Some, None, is_some, option_to_list, List, [], ◌∷◌, ◌++◌, length, length-append, min, nat_le, take, drop, set, All, refl, sym, ap, subst, arith}
use Rattle.std.specs.List.{slice_get, position}
use Rattle.std.specs.Option.{option_and_then}
use Rattle.std.proofs.lemmas.Bool.{and_parts}
use Rattle.std.proofs.lemmas.Bool.Decides.{nat_tests}
use Rattle.std.proofs.lemmas.List.{length-take, take_all}
use Rattle.std.proofs.lemmas.List.Elements.{All-nil, All-cons, All-head, All-tail, All-append, All-take}
use Rattle.std.proofs.lemmas.Option.{option_and_then_some, slice_get_read, slice_get_cases}
use Rattle.zk_base.proofs.Lists.{All-at}
use Rattle.zk_line.specs.declared.types.Decl.{Decl}
use Rattle.zk_model_wait.specs.declared.clock.ClockOp.{ClockOp}
use Rattle.zk_model_wait.specs.declared.clock.ClockOp.TheVariants as clock_ops
use Rattle.zk_model_wait.specs.declared.msgq.MsgqOp.TheVariants as msgq_ops
use Rattle.zk_model_wait.specs.declared.sem.SemOp.TheVariants as sem_ops
use Rattle.zk_words.specs.declared.timeout.Timeout.{Timeout}
use Rattle.zk_words.specs.declared.timeout.Timeout.TheVariants.{Ticks}
use Rattle.zk_line.specs.declared.events.Event.{Event}
use Rattle.zk_line.specs.declared.events.Event.TheVariants.{Ignore, Sem, Msgq, Sig}
use Rattle.zk_line.specs.declared.events.TheConstants.{MOST_EVENTS}
use Rattle.zk_worker.specs.declared.frames.Mark.{Mark}
use Rattle.zk_worker.specs.declared.frames.Mark.TheVariants.{Unasked, Armed}
use Rattle.zk_worker.specs.declared.frames.Alarm.{Alarm}
use Rattle.zk_worker.specs.declared.frames.Alarm.TheVariants.{Unset, Due}
use Rattle.zk_worker.specs.declared.frames.Stage.{Stage}
use Rattle.zk_worker.specs.declared.frames.Stage.TheVariants.{Start, Polls}
use Rattle.zk_line.specs.Few.{is_few}
use Rattle.zk_worker.specs.declared.steps.Step.{Step}
use Rattle.zk_worker.specs.declared.steps.Step.TheVariants as steps
use Rattle.zk_worker.specs.Families.{is_declared}
use Rattle.zk_worker.specs.Machines.{sem_start, msgq_start, signal_start}
use Rattle.zk_worker.specs.Ranges.{step_fits}
use Rattle.zk_worker.specs.Moves.{is_unasked}
use Rattle.zk_worker.specs.Polls.{fresh, is_armed, is_to_ask, marked, event_of, watched_from, asks_more, unasked_from, ask_step, watch_step, drop_step, step_at, asking, dropping, watching, alarm_steps, is_closing, registers, polling, poll_start, poll_attempts}
use Rattle.zk_worker.specs.Refs.{ref_object}

abbrev Fit : List Decl → Step → Type 0
Fit decls step = step_fits decls step ≡ true

-- whether what an event names is declared as what it names
abbrev pub is_source : List Decl → Event → Bool
is_source decls Ignore = true
is_source decls (Sem sem) = is_declared sem_start decls (ref_object sem)
is_source decls (Msgq queue) = is_declared msgq_start decls (ref_object queue)
is_source decls (Sig signal) = is_declared signal_start decls (ref_object signal)

same-fits : (decls : List Decl) (made step : Step) → Fit decls made → Some made ≡ Some step → Fit decls step
same-fits decls made step fits is = let same : made ≡ step = cc in subst (λ (s : Step). Fit decls s) same fits

ask-fits : (decls : List Decl) (registers : Bool) (event : Event) (step : Step) → is_source decls event ≡ true → ask_step registers event ≡ Some step → Fit decls step
ask-fits decls registers Ignore step fits is = absurd (cc)
ask-fits decls registers (Sem sem) step fits is = same-fits decls (steps.Sem (ref_object sem) (sem_ops.PollArm registers)) step fits is
ask-fits decls registers (Msgq queue) step fits is = same-fits decls (steps.Msgq (ref_object queue) (msgq_ops.PollArm registers)) step fits is
ask-fits decls registers (Sig signal) step fits is = same-fits decls (steps.LookSignal (ref_object signal) false) step fits is

watch-fits : (decls : List Decl) (event : Event) (mark : Mark) (step : Step) → is_source decls event ≡ true → watch_step event mark ≡ Some step → Fit decls step
watch-fits decls (Sem sem) (Armed place) step fits is = same-fits decls (steps.Sem (ref_object sem) (sem_ops.PollEnd place)) step fits is
watch-fits decls (Msgq queue) (Armed place) step fits is = same-fits decls (steps.Msgq (ref_object queue) (msgq_ops.PollEnd place)) step fits is
watch-fits decls (Sig signal) mark step fits is = same-fits decls (steps.LookSignal (ref_object signal) true) step fits is
watch-fits decls event mark step fits is = absurd (cc)

drop-fits : (decls : List Decl) (event : Event) (mark : Mark) (step : Step) → is_source decls event ≡ true → drop_step event mark ≡ Some step → Fit decls step
drop-fits decls (Sem sem) (Armed place) step fits is = same-fits decls (steps.Sem (ref_object sem) (sem_ops.PollQuit place)) step fits is
drop-fits decls (Msgq queue) (Armed place) step fits is = same-fits decls (steps.Msgq (ref_object queue) (msgq_ops.PollQuit place)) step fits is
drop-fits decls event mark step fits is = absurd (cc)

option-each : (P : Step → Type 0) (step : Option Step) → ((s : Step) → step ≡ Some s → P s) → All P (option_to_list step)
option-each P None each = All-nil P
option-each P (Some step) each = All-cons P step [] (each step refl) (All-nil P)

-- what holds of each step that events and alarms give holds of all attempts of a poll, where the events have what that asks for
module _ (P : Step → Type 0) (Q : Event → Type 0)
    (asked : (registers : Bool) (event : Event) (step : Step) → Q event → ask_step registers event ≡ Some step → P step)
    (watched : (event : Event) (mark : Mark) (step : Step) → Q event → watch_step event mark ≡ Some step → P step)
    (dropped : (event : Event) (mark : Mark) (step : Step) → Q event → drop_step event mark ≡ Some step → P step)
    (alarmed : (ticks : ℕ) → P (steps.Clock (clock_ops.Alarm ticks))) (ended : (moment : ℕ) → P (steps.Clock (clock_ops.AlarmEnd moment))) where
  -- the step for the event at a place
  step_at-each : (made : Event → Mark → Option Step) → ((event : Event) (mark : Mark) (step : Step) → Q event → made event mark ≡ Some step → P step) →
      (events : List Event) (marks : List Mark) (place : Option ℕ) (step : Step) → All Q events → step_at made events marks place ≡ Some step → P step
  step_at-each made each events marks None step all is = absurd (cc)
  step_at-each made each events marks (Some k) step all is =
      option_and_then_some {P = P step} (λ event. option_and_then (made event) (slice_get marks k)) (slice_get events k) step is
      (λ event there more. option_and_then_some {P = P step} (made event) (slice_get marks k) step more
      (λ mark marked told. each event mark step (All-at Q events k event all there) told))

  watching-each : (events : List Event) (marks : List Mark) → All Q events → All P (watching events marks)
  watching-each [] marks all = All-nil P
  watching-each (event ∷ events) [] all = All-nil P
  watching-each (event ∷ events) (mark ∷ marks) all =
      All-append P (option_to_list (watch_step event mark)) (watching events marks)
      (option-each P (watch_step event mark) (λ step is. watched event mark step (All-head Q event events all) is))
      (watching-each events marks (All-tail Q event events all))

  alarm-each : (alarm : Alarm) → All P (alarm_steps alarm)
  alarm-each (Due moment) = All-cons P (steps.Clock (clock_ops.AlarmEnd moment)) [] (ended moment) (All-nil P)
  alarm-each alarm = All-nil P

  polling-each : (timeout : Timeout) (events : List Event) (alarm : Alarm) (marks : List Mark) → All Q events → All P (polling timeout events alarm marks)
  polling-each timeout events alarm marks all =
      let asks = option_to_list (asking (registers timeout marks) events marks) in
      let drops = option_to_list (dropping events marks) in
      let waits = watching (take MOST_EVENTS events) marks ++ alarm_steps alarm in
      elim (asks_more events marks) as (λ b. All P (cond b asks (cond (is_closing alarm marks) drops waits))) [
        | true ↦ option-each P (asking (registers timeout marks) events marks) (λ step is.
            step_at-each (λ event mark. ask_step (registers timeout marks) event) (λ event mark step. asked (registers timeout marks) event step)
            events marks (unasked_from 0 events marks) step all is)
        | false ↦ elim (is_closing alarm marks) as (λ b. All P (cond b drops waits)) [
          | true ↦ option-each P (dropping events marks) (λ step is. step_at-each drop_step dropped events marks (position is_armed marks) step all is)
          | false ↦ All-append P (watching (take MOST_EVENTS events) marks) (alarm_steps alarm)
              (watching-each (take MOST_EVENTS events) marks (All-take Q MOST_EVENTS events all)) (alarm-each alarm)
        ]
      ]

  start-each : (timeout : Timeout) (events : List Event) → All Q events → All P (poll_start timeout events)
  start-each (Ticks ticks) events all = All-cons P (steps.Clock (clock_ops.Alarm ticks)) [] (alarmed ticks) (All-nil P)
  start-each timeout events all = polling-each timeout events Unset fresh all

  pub poll_attempts-all : (timeout : Timeout) (events : List Event) (stage : Stage) → All Q events → All P (poll_attempts timeout events stage)
  poll_attempts-all timeout events Start all = start-each timeout events all
  poll_attempts-all timeout events (Polls alarm marks) all = polling-each timeout events alarm marks all
  poll_attempts-all timeout events stage all = All-nil P

-- the same, of what holds of all steps of the clock
pub poll_attempts-each : (P : Step → Type 0) (Q : Event → Type 0) (asked : (registers : Bool) (event : Event) (step : Step) → Q event → ask_step registers event ≡ Some step → P step)
    (watched : (event : Event) (mark : Mark) (step : Step) → Q event → watch_step event mark ≡ Some step → P step)
    (dropped : (event : Event) (mark : Mark) (step : Step) → Q event → drop_step event mark ≡ Some step → P step) (alarmed : (op : ClockOp) → P (steps.Clock op))
    (timeout : Timeout) (events : List Event) (stage : Stage) → All Q events → All P (poll_attempts timeout events stage)
poll_attempts-each P Q asked watched dropped alarmed =
    poll_attempts-all P Q asked watched dropped (λ ticks. alarmed (clock_ops.Alarm ticks)) (λ moment. alarmed (clock_ops.AlarmEnd moment))

-- the attempts of a poll name what is declared, where its events do
pub poll_attempts-fit : (decls : List Decl) (timeout : Timeout) (events : List Event) (stage : Stage) → All (λ event. is_source decls event ≡ true) events →
    All (λ step. step_fits decls step ≡ true) (poll_attempts timeout events stage)
poll_attempts-fit decls = poll_attempts-each (Fit decls) (λ event. is_source decls event ≡ true) (ask-fits decls) (watch-fits decls) (drop-fits decls) (λ op. refl)

-- a poll has at most eight events
pub few_events : (events : List Event) → is_few events ≡ true → length events ≤ MOST_EVENTS
few_events events few =
    let most = and_parts (nat_le 1 (length events)) (nat_le (length events) 8) few in
    grind (arith, nat_tests, most.1)

-- where a poll has few events, it waits for them all
pub all_taken : (events : List Event) → length events ≤ MOST_EVENTS → take MOST_EVENTS events ≡ events
all_taken events few = take_all MOST_EVENTS events few

option-few : (step : Option Step) → length (option_to_list step) ≤ 1
option-few None = omega arith
option-few (Some step) = omega arith

watching-few : (events : List Event) (marks : List Mark) → length (watching events marks) ≤ length events
watching-few [] marks = omega arith
watching-few (event ∷ events) [] = omega arith
watching-few (event ∷ events) (mark ∷ marks) =
    omega (arith, option-few (watch_step event mark), watching-few events marks, length-append (option_to_list (watch_step event mark)) (watching events marks))

alarm-few : (alarm : Alarm) → length (alarm_steps alarm) ≤ 1
alarm-few (Due moment) = omega arith
alarm-few alarm = omega arith

min-left : (a b : ℕ) → min a b ≤ a
min-left a b = omega arith

waits-few : (events : List Event) (alarm : Alarm) (marks : List Mark) → length (watching (take MOST_EVENTS events) marks ++ alarm_steps alarm) ≤ 9
waits-few events alarm marks =
    omega (
      arith,
      watching-few (take MOST_EVENTS events) marks,
      length-take MOST_EVENTS events,
      min-left MOST_EVENTS (length events),
      alarm-few alarm,
      length-append (watching (take MOST_EVENTS events) marks) (alarm_steps alarm),
    )

polling-few : (timeout : Timeout) (events : List Event) (alarm : Alarm) (marks : List Mark) → length (polling timeout events alarm marks) ≤ 9
polling-few timeout events alarm marks =
    let asks = option_to_list (asking (registers timeout marks) events marks) in
    let drops = option_to_list (dropping events marks) in
    let waits = watching (take MOST_EVENTS events) marks ++ alarm_steps alarm in
    elim (asks_more events marks) as (λ b. length (cond b asks (cond (is_closing alarm marks) drops waits)) ≤ 9) [
      | true ↦ omega (arith, option-few (asking (registers timeout marks) events marks))
      | false ↦ elim (is_closing alarm marks) as (λ b. length (cond b drops waits) ≤ 9) [
        | true ↦ omega (arith, option-few (dropping events marks))
        | false ↦ waits-few events alarm marks
      ]
    ]

start-few : (timeout : Timeout) (events : List Event) → length (poll_start timeout events) ≤ 9
start-few (Ticks ticks) events = omega arith
start-few timeout events = polling-few timeout events Unset fresh

-- a poll has at most nine attempts at a time: one for each of eight events, and the end of its alarm
pub poll_attempts-few : (timeout : Timeout) (events : List Event) (stage : Stage) → length (poll_attempts timeout events stage) ≤ 9
poll_attempts-few timeout events Start = start-few timeout events
poll_attempts-few timeout events (Polls alarm marks) = polling-few timeout events alarm marks
poll_attempts-few timeout events stage = omega arith

not-asked : (event : Event) (mark : Mark) → is_unasked mark ≡ false → is_to_ask event mark ≡ false
not-asked Ignore mark is = refl
not-asked event Unasked is = absurd (cc)
not-asked event mark is = refl

-- where the first event that is to be asked has its mark, the next one is looked for behind it
unasked-after : (n p : ℕ) (events : List Event) (marks : List Mark) (mark : Mark) → is_unasked mark ≡ false → unasked_from n events marks ≡ Some (n + p) →
    unasked_from n events (set marks p mark) ≡ unasked_from (n + p + 1) (drop (suc p) events) (drop (suc p) marks)
unasked-after n p [] marks mark asked is = absurd (cc)
unasked-after n p (event ∷ events) [] mark asked is = absurd (cc)
unasked-after n p (event ∷ events) (m ∷ marks) mark asked is = by p (is_to_ask event m) refl is (λ q there. unasked-after (n + 1) q events marks mark asked there)
  where
    by : (p : ℕ) (b : Bool) → is_to_ask event m ≡ b → cond b (Some n) (unasked_from (n + 1) events marks) ≡ Some (n + p) →
        ((q : ℕ) → unasked_from (n + 1) events marks ≡ Some (n + 1 + q) → unasked_from (n + 1) events (set marks q mark) ≡ unasked_from (n + 1 + q + 1) (drop (suc q) events) (drop (suc q) marks)) →
        unasked_from n (event ∷ events) (set (m ∷ marks) p mark) ≡ unasked_from (n + p + 1) (drop (suc p) (event ∷ events)) (drop (suc p) (m ∷ marks))
    by zero b first is more =
        let same : n + 1 ≡ n + 0 + 1 = omega arith in
        ap (λ (c : Bool). cond c (Some n) (unasked_from (n + 1) events marks)) (not-asked event mark asked)
        ∙ ap (λ (k : ℕ). unasked_from k events marks) same
    by (suc q) true first is more = let same : n ≡ n + suc q = cc in absurd (omega (arith, same))
    by (suc q) false first is more =
        let here : n + suc q ≡ n + 1 + q = omega arith in
        let behind : n + 1 + q + 1 ≡ n + suc q + 1 = omega arith in
        ap (λ (c : Bool). cond c (Some n) (unasked_from (n + 1) events (set marks q mark))) first
        ∙ more q (is ∙ ap (λ (k : ℕ). Some k) here)
        ∙ ap (λ (k : ℕ). unasked_from k (drop (suc q) events) (drop (suc q) marks)) behind

-- whether an event behind this place is still to be asked
abbrev asks_behind : ℕ → List Event → List Mark → Bool
asks_behind place events marks = is_some (unasked_from (place + 1) (drop (place + 1) events) (drop (place + 1) marks))

-- whether more is to be asked behind the first event that was to be asked, if there was one
abbrev asks_from : Option ℕ → List Event → List Mark → Bool
asks_from (Some place) events marks = asks_behind place events marks
asks_from None events marks = false

-- once it has its mark, an event is to be asked where one behind it is
asks_marked : (events : List Event) (marks : List Mark) (place : ℕ) (mark : Mark) → is_unasked mark ≡ false → unasked_from 0 events marks ≡ Some place →
    asks_more events (set marks place mark) ≡ asks_behind place events marks
asks_marked events marks place mark asked first =
    let here : place ≡ 0 + place = omega arith in
    let number : 0 + place + 1 ≡ place + 1 = omega arith in
    let next : suc place ≡ place + 1 = omega arith in
    ap (λ (o : Option ℕ). is_some o) (
    unasked-after 0 place events marks mark asked (first ∙ ap (λ (k : ℕ). Some k) here)
    ∙ ap (λ (k : ℕ). unasked_from k (drop (suc place) events) (drop (suc place) marks)) number
    ∙ ap (λ (k : ℕ). unasked_from (place + 1) (drop k events) (drop k marks)) next
    )

-- where none is to be asked, none is once an event has its mark
unasked-none : (n p : ℕ) (events : List Event) (marks : List Mark) (mark : Mark) → is_unasked mark ≡ false → unasked_from n events marks ≡ None →
    unasked_from n events (set marks p mark) ≡ None
unasked-none n p [] marks mark asked is = refl
unasked-none n p (event ∷ events) [] mark asked is = is
unasked-none n p (event ∷ events) (m ∷ marks) mark asked is = by p (is_to_ask event m) refl is (λ q none. unasked-none (n + 1) q events marks mark asked none)
  where
    by : (p : ℕ) (b : Bool) → is_to_ask event m ≡ b → cond b (Some n) (unasked_from (n + 1) events marks) ≡ None →
        ((q : ℕ) → unasked_from (n + 1) events marks ≡ None → unasked_from (n + 1) events (set marks q mark) ≡ None) → unasked_from n (event ∷ events) (set (m ∷ marks) p mark) ≡ None
    by p true first is more = absurd (cc)
    by zero false first is more = ap (λ (c : Bool). cond c (Some n) (unasked_from (n + 1) events marks)) (not-asked event mark asked) ∙ is
    by (suc q) false first is more = ap (λ (c : Bool). cond c (Some n) (unasked_from (n + 1) events (set marks q mark))) first ∙ more q is

-- whether more is to be asked once the event that a step is for has its mark
pub asks-on : (events : List Event) (alarm : Alarm) (marks : List Mark) (made : Step) (mark : Mark) → is_unasked mark ≡ false → (unasked : Option ℕ) → unasked ≡ unasked_from 0 events marks →
    asks_more events (marked marks (event_of events alarm marks made) mark) ≡ asks_from unasked events marks
asks-on events alarm marks made mark asked (Some place) first =
    let some : asks_more events marks ≡ true = ap (λ (o : Option ℕ). is_some o) (sym first) in
    let here : event_of events alarm marks made ≡ Some place =
    ap (λ (b : Bool). cond b (unasked_from 0 events marks) (cond (is_closing alarm marks) (position is_armed marks) (watched_from 0 made events marks))) some ∙ sym first in
    ap (λ (o : Option ℕ). asks_more events (marked marks o mark)) here ∙ asks_marked events marks place mark asked (sym first)
asks-on events alarm marks made mark asked None first = by (event_of events alarm marks made)
  where
    by : (place : Option ℕ) → asks_more events (marked marks place mark) ≡ false
    by None = ap (λ (o : Option ℕ). is_some o) (sym first)
    by (Some place) = ap (λ (o : Option ℕ). is_some o) (unasked-none 0 place events marks mark asked (sym first))

unasked-within : (n place : ℕ) (events : List Event) (marks : List Mark) → unasked_from n events marks ≡ Some place →
    (place < n + length events) × (place < n + length marks)
unasked-within n place [] marks is = absurd (cc)
unasked-within n place (event ∷ events) [] is = absurd (cc)
unasked-within n place (event ∷ events) (mark ∷ marks) is = by (is_to_ask event mark) is (λ there. unasked-within (n + 1) place events marks there)
  where
    by : (b : Bool) → cond b (Some n) (unasked_from (n + 1) events marks) ≡ Some place →
        (unasked_from (n + 1) events marks ≡ Some place → (place < n + 1 + length events) × (place < n + 1 + length marks)) →
        (place < n + length (event ∷ events)) × (place < n + length (mark ∷ marks))
    by true is more = let same : n ≡ place = cc in (omega (arith, same), omega (arith, same))
    by false is more = let behind = more is in (omega (arith, behind.0), omega (arith, behind.1))

-- the first event that is to be asked is one, and has a mark
pub unasked_within : (events : List Event) (marks : List Mark) (place : ℕ) → unasked_from 0 events marks ≡ Some place →
    (place < length events) × (place < length marks)
unasked_within events marks place is = let within = unasked-within 0 place events marks is in (omega (arith, within.0), omega (arith, within.1))

at-first : (step : Option Step) → slice_get (option_to_list step) 0 ≡ step
at-first None = refl
at-first (Some step) = refl

at-later : (step : Option Step) (k : ℕ) → slice_get (option_to_list step) (suc k) ≡ None
at-later None k = refl
at-later (Some step) k = refl

-- the step that asks for the first event that is to be asked
asking-at : (registers : Bool) (events : List Event) (marks : List Mark) (place : ℕ) (event : Event) → unasked_from 0 events marks ≡ Some place → slice_get events place ≡ Some event →
    asking registers events marks ≡ ask_step registers event
asking-at registers events marks place event first there =
    ap (λ (o : Option ℕ). step_at (λ event mark. ask_step registers event) events marks o) first
    ∙ ap (λ (o : Option Event). option_and_then (λ event. option_and_then (λ mark. ask_step registers event) (slice_get marks place)) o) there
    ∙ by (slice_get_cases marks place).1
  where
    by : ((x : Mark) × (place < length marks) × (slice_get marks place ≡ Some x) × (get_or marks place x ≡ x)) ⊎ ((length marks ≤ place) × (slice_get marks place ≡ None)) →
        option_and_then (λ mark. ask_step registers event) (slice_get marks place) ≡ ask_step registers event
    by (inl there) = ap (λ (o : Option Mark). option_and_then (λ mark. ask_step registers event) o) there.2
    by (inr behind) = let within = unasked_within events marks place first in absurd (omega (arith, within.1, behind.0))

polling-asks : (timeout : Timeout) (events : List Event) (alarm : Alarm) (marks : List Mark) (place index : ℕ) → unasked_from 0 events marks ≡ Some place →
    slice_get (polling timeout events alarm marks) index ≡ slice_get (option_to_list (asking (registers timeout marks) events marks)) index
polling-asks timeout events alarm marks place index first =
    let asks = option_to_list (asking (registers timeout marks) events marks) in
    let drops = option_to_list (dropping events marks) in
    let waits = watching (take MOST_EVENTS events) marks ++ alarm_steps alarm in
    let more : asks_more events marks ≡ true = ap (λ (o : Option ℕ). is_some o) first in
    ap (λ (b : Bool). slice_get (cond b asks (cond (is_closing alarm marks) drops waits)) index) more

-- while an event is to be asked, the step that asks for it is the one attempt
pub asked_first : (timeout : Timeout) (events : List Event) (alarm : Alarm) (marks : List Mark) (place : ℕ) (event : Event) → unasked_from 0 events marks ≡ Some place → event ≡ get_or events place event →
    slice_get (polling timeout events alarm marks) 0 ≡ ask_step (registers timeout marks) event
asked_first timeout events alarm marks place event first here =
    let within = unasked_within events marks place first in
    polling-asks timeout events alarm marks place 0 first ∙ at-first (asking (registers timeout marks) events marks)
    ∙ asking-at (registers timeout marks) events marks place event first (slice_get_read events (length events) place event refl within.0 here)

pub asked_later : (timeout : Timeout) (events : List Event) (alarm : Alarm) (marks : List Mark) (place index : ℕ) → unasked_from 0 events marks ≡ Some place → 0 < index →
    slice_get (polling timeout events alarm marks) index ≡ None
asked_later timeout events alarm marks place zero first later = absurd (omega arith)
asked_later timeout events alarm marks place (suc k) first later =
    polling-asks timeout events alarm marks place (suc k) first ∙ at-later (asking (registers timeout marks) events marks) k
