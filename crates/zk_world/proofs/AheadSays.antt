-- What the attempts of a player say beside the objects that they are made at.
use Rattle.std.proofs.Common.{◌≡◌, ◌⊎◌, inl, inr, ℕ, Bool, true, false, ◌&&◌, nat_le, Option, Some, None, List, [], ◌∷◌, length, All, refl, sym, ap, subst, ◌∙◌}
use Rattle.std.specs.List.{slice_get, list_all}
use Rattle.std.specs.Option.{option_and_then, option_map_or}
use Rattle.std.proofs.lemmas.Bool.{and_parts, eqb-true}
use Rattle.std.proofs.lemmas.List.Elements.{All-nil, All-cons}
use Rattle.zk_base.proofs.Lists.{All-at, list_all-at}
use Rattle.zk_base.specs.declared.kinds.Need.{Need}
use Rattle.zk_base.specs.declared.kinds.Need.TheVariants as needs
use Rattle.zk_base.specs.Fews as fews
use Rattle.zk_base.specs.Limits.{longest_message}
use Rattle.zk_base.specs.Messages.{is_message}
use Rattle.zk_line.specs.declared.types.Decl.{Decl}
use Rattle.zk_line.specs.declared.types.Decl.TheVariants as decl_kinds
use Rattle.zk_line.specs.declared.types.Arg.TheVariants as args
use Rattle.zk_line.specs.declared.types.Ref.{Ref}
use Rattle.zk_line.specs.declared.types.Ref.TheVariants.{Known, Unknown}
use Rattle.zk_line.specs.declared.types.Call.{Call}
use Rattle.zk_line.specs.declared.types.Call.TheVariants as calls
use Rattle.zk_line.specs.declared.events.Event.{Event}
use Rattle.zk_line.specs.declared.events.Event.TheVariants as sources
use Rattle.zk_line.specs.Checks.{size_named, is_size}
use Rattle.zk_line.specs.Fits.{ref_fits, call_fits, decl_fits, all_different}
use Rattle.zk_line.specs.Objects.{is_at, is_met, is_chan, is_msgq, size_of, size_at, number_of}
use Rattle.zk_scenario.specs.Content.{Content}
use Rattle.zk_scenario.specs.Players.{calls_of}
use Rattle.zk_scenario.specs.Valid.{IsValid}
use Rattle.zk_words.specs.Timeouts.{wait_fits}
use Rattle.zk_words.specs.declared.timeout.Timeout.{Timeout}
use Rattle.zk_words.specs.declared.timeout.Timeout.TheVariants.{No, Forever, Ticks}
use Rattle.zk_model_bus.specs.declared.channel.ChanOp.TheVariants as chan_ops
use Rattle.zk_model_wait.specs.declared.clock.ClockOp.TheVariants as clock_ops
use Rattle.zk_model_wait.specs.declared.msgq.MsgqOp.TheVariants as msgq_ops
use Rattle.zk_model_wait.specs.declared.sem.SemOp.TheVariants as sem_ops
use Rattle.zk_model_work.specs.declared.ops.WorkOp.TheVariants as ops
use Rattle.zk_worker.specs.declared.steps.Step.{Step}
use Rattle.zk_worker.specs.declared.steps.Step.TheVariants as steps
use Rattle.zk_worker.specs.declared.checks.Mode.{Mode}
use Rattle.zk_worker.specs.declared.frames.Closing.{Closing}
use Rattle.zk_worker.specs.declared.frames.Closing.TheVariants as closings
use Rattle.zk_worker.specs.declared.frames.Frame.{Frame}
use Rattle.zk_worker.specs.declared.frames.Mark.{Mark}
use Rattle.zk_worker.specs.declared.frames.Mark.TheVariants.{Armed}
use Rattle.zk_worker.specs.declared.frames.Plan.{Plan}
use Rattle.zk_worker.specs.declared.frames.Plan.TheVariants.{One, Pair, Twice, Wait, Poll, Channel}
use Rattle.zk_worker.specs.declared.frames.Role.{Role}
use Rattle.zk_worker.specs.declared.frames.Role.TheVariants.{Script, Worker}
use Rattle.zk_worker.specs.declared.frames.Stage.{Stage}
use Rattle.zk_worker.specs.declared.frames.Stage.TheVariants.{Start, Runs, Waits, Halfway, Alarmed, WaitsUntil, Quits, Holds, Visits, Reads}
use Rattle.zk_worker.specs.declared.frames.Using.{Using}
use Rattle.zk_worker.specs.declared.frames.Using.TheVariants.{Publish, Notify, Read}
use Rattle.zk_worker.specs.declared.frames.Waiting.{Waiting}
use Rattle.zk_worker.specs.declared.frames.Waiting.TheVariants.{Take, Put, Get, Claim, SubWait, Offer, Enter}
use Rattle.zk_worker.specs.Calls.{plan_of, closing_step, plan_attempts}
use Rattle.zk_worker.specs.Checks.{next_check}
use Rattle.zk_worker.specs.Places.{PlayerPlace}
use Rattle.zk_worker.specs.Polls.{ask_step, watch_step, drop_step, poll_attempts}
use Rattle.zk_worker.specs.Protocol.{IsAhead, worker_attempts, call_attempts, role_attempts, frames_attempts}
use Rattle.zk_worker.specs.Publishes.{asks_for, use_step, visit_step, channel_attempts}
use Rattle.zk_worker.specs.Ranges.{HasObjects, HasBegun, IsUsers, ArePassed, IsFit}
use Rattle.zk_worker.specs.Refs.{ref_object}
use Rattle.zk_worker.specs.Waits.{open_step, end_step, quit_step, first_step, wait_attempts}
use Rattle.zk_worker.proofs.CheckedSteps.{IsCheck, IsOwn, one-or-other}
use Rattle.zk_worker.proofs.Fits.{TopHasObjects}
use Rattle.zk_worker.proofs.FreeCalls.{own-objects}
use Rattle.zk_worker.proofs.PollSteps.{poll_attempts-each}
use Rattle.std.proofs.lemmas.List.Elements.{All-head}
use Rattle.zk_world.specs.Says.{SaysFit}

module _ (decls : List Decl) where
  -- what a call says
  abbrev WaitSays : Waiting → Type 0
  WaitSays (Put object message) = is_message message ≡ true
  WaitSays (Offer object message) = is_message message ≡ true
  WaitSays waiting = Unit {0}

  abbrev UsingSays : Using → Type 0
  UsingSays (Publish message) = is_message message ≡ true
  UsingSays using_ = Unit {0}

  abbrev PlanSays : Plan → Type 0
  PlanSays (One step) = SaysFit decls step
  PlanSays (Pair opening closing) = SaysFit decls opening
  PlanSays (Twice first second) = SaysFit decls first × SaysFit decls second
  PlanSays (Wait waiting timeout) = WaitSays waiting
  PlanSays (Poll timeout events) = Unit {0}
  PlanSays (Channel chan using_ timeout) = (is_at is_chan decls chan ≡ true) × UsingSays using_

  -- What it attempts.

  one-says : (step : Step) → SaysFit decls step → All (SaysFit decls) (step ∷ [])
  one-says step says = All-cons (SaysFit decls) step [] says (All-nil (SaysFit decls))

  open-says : (waiting : Waiting) (waits : Bool) → WaitSays waiting → SaysFit decls (open_step waiting waits)
  open-says (Take object) waits says = tt
  open-says (Put object message) waits says = says
  open-says (Get object) waits says = tt
  open-says (Claim object) waits says = tt
  open-says (SubWait object) waits says = tt
  open-says (Offer object message) waits says = says
  open-says (Enter object) waits says = tt

  end-says : (waiting : Waiting) (place : ℕ) → SaysFit decls (end_step waiting place)
  end-says (Take object) place = tt
  end-says waiting place = tt

  quit-says : (waiting : Waiting) (place : ℕ) → SaysFit decls (quit_step waiting place)
  quit-says (Take object) place = tt
  quit-says waiting place = tt

  first-says : (waiting : Waiting) (timeout : Timeout) → WaitSays waiting → SaysFit decls (first_step waiting timeout)
  first-says waiting No says = open-says waiting false says
  first-says waiting Forever says = open-says waiting true says
  first-says waiting (Ticks ticks) says = tt

  wait-says : (waiting : Waiting) (timeout : Timeout) (stage : Stage) → WaitSays waiting → All (SaysFit decls) (wait_attempts waiting timeout stage)
  wait-says waiting timeout Start says = one-says (first_step waiting timeout) (first-says waiting timeout says)
  wait-says waiting timeout (Alarmed moment) says = one-says (open_step waiting true) (open-says waiting true says)
  wait-says waiting timeout (Waits place) says = one-says (end_step waiting place) (end-says waiting place)
  wait-says waiting timeout (WaitsUntil place moment) says =
      All-cons (SaysFit decls) (end_step waiting place) (steps.Clock (clock_ops.AlarmEnd moment) ∷ []) (end-says waiting place) (one-says (steps.Clock (clock_ops.AlarmEnd moment)) tt)
  wait-says waiting timeout (Quits place) says = one-says (quit_step waiting place) (quit-says waiting place)
  wait-says waiting timeout stage says = All-nil (SaysFit decls)

  closing-says : (closing : Closing) (place : ℕ) → SaysFit decls (closing_step closing place)
  closing-says closings.Cancel place = tt
  closing-says closings.Flush place = tt
  closing-says closings.Drain place = tt

  made-says : (made step : Step) → SaysFit decls made → Some made ≡ Some step → SaysFit decls step
  made-says made step says is = let same : made ≡ step = cc in subst (SaysFit decls) same says

  ask-says : (registers : Bool) (event : Event) (step : Step) → Unit {0} → ask_step registers event ≡ Some step → SaysFit decls step
  ask-says registers sources.Ignore step any is = absurd (cc)
  ask-says registers (sources.Sem sem) step any is = made-says (steps.Sem (ref_object sem) (sem_ops.PollArm registers)) step tt is
  ask-says registers (sources.Msgq queue) step any is = made-says (steps.Msgq (ref_object queue) (msgq_ops.PollArm registers)) step tt is
  ask-says registers (sources.Sig signal) step any is = made-says (steps.LookSignal (ref_object signal) false) step tt is

  watch-says : (event : Event) (mark : Mark) (step : Step) → Unit {0} → watch_step event mark ≡ Some step → SaysFit decls step
  watch-says (sources.Sem sem) (Armed place) step any is = made-says (steps.Sem (ref_object sem) (sem_ops.PollEnd place)) step tt is
  watch-says (sources.Msgq queue) (Armed place) step any is = made-says (steps.Msgq (ref_object queue) (msgq_ops.PollEnd place)) step tt is
  watch-says (sources.Sig signal) mark step any is = made-says (steps.LookSignal (ref_object signal) true) step tt is
  watch-says event mark step any is = absurd (cc)

  drop-says : (event : Event) (mark : Mark) (step : Step) → Unit {0} → drop_step event mark ≡ Some step → SaysFit decls step
  drop-says (sources.Sem sem) (Armed place) step any is = made-says (steps.Sem (ref_object sem) (sem_ops.PollQuit place)) step tt is
  drop-says (sources.Msgq queue) (Armed place) step any is = made-says (steps.Msgq (ref_object queue) (msgq_ops.PollQuit place)) step tt is
  drop-says event mark step any is = absurd (cc)

  any-event : (events : List Event) → All (λ event. Unit {0}) events
  any-event [] = All-nil (λ event. Unit {0})
  any-event (event ∷ events) = All-cons (λ event. Unit {0}) event events tt (any-event events)

  poll-says : (timeout : Timeout) (events : List Event) (stage : Stage) → All (SaysFit decls) (poll_attempts timeout events stage)
  poll-says timeout events stage =
      poll_attempts-each (SaysFit decls) (λ event. Unit {0}) ask-says watch-says drop-says (λ op. tt) timeout events stage (any-event events)

  asks-says : (chan : ℕ) (using_ : Using) → UsingSays using_ → WaitSays (asks_for chan using_)
  asks-says chan (Publish message) says = says
  asks-says chan Notify says = tt
  asks-says chan Read says = tt

  use-says : (chan : ℕ) (using_ : Using) → UsingSays using_ → SaysFit decls (use_step chan using_)
  use-says chan (Publish message) says = says
  use-says chan Notify says = tt
  use-says chan Read says = tt

  visit-says : (chan : ℕ) (left : List ℕ) → is_at is_chan decls chan ≡ true → SaysFit decls (visit_step chan left)
  visit-says chan [] is = tt
  visit-says chan (observer ∷ left) is = is

  channel-says : (chan : ℕ) (using_ : Using) (timeout : Timeout) (stage : Stage) → is_at is_chan decls chan ≡ true → UsingSays using_ → All (SaysFit decls) (channel_attempts chan using_ timeout stage)
  channel-says chan using_ timeout Holds is says = one-says (use_step chan using_) (use-says chan using_ says)
  channel-says chan using_ timeout (Visits left full) is says = one-says (visit_step chan left) (visit-says chan left is)
  channel-says chan using_ timeout (Reads message) is says = one-says (steps.Chan chan chan_ops.Free) tt
  channel-says chan using_ timeout stage is says = wait-says (asks_for chan using_) timeout stage (asks-says chan using_ says)

  attempts-say : (plan : Plan) (stage : Stage) → PlanSays plan → All (SaysFit decls) (plan_attempts plan stage)
  attempts-say (One step) Start says = one-says step says
  attempts-say (Pair opening closing) Start says = one-says opening says
  attempts-say (Pair opening closing) (Waits place) says = one-says (closing_step closing place) (closing-says closing place)
  attempts-say (Twice first second) Start says = one-says first says.0
  attempts-say (Twice first second) Halfway says = one-says second says.1
  attempts-say (Wait waiting timeout) stage says = wait-says waiting timeout stage says
  attempts-say (Poll timeout events) stage says = poll-says timeout events stage
  attempts-say (Channel chan using_ timeout) stage says = channel-says chan using_ timeout stage says.0 says.1
  attempts-say plan stage says = All-nil (SaysFit decls)

  worker-says : (queue : ℕ) (stage : Stage) → All (SaysFit decls) (worker_attempts queue stage)
  worker-says queue Start = one-says (steps.Work (ops.Begin queue)) tt
  worker-says queue Runs = one-says (steps.Work (ops.End queue)) tt
  worker-says queue stage = All-nil (SaysFit decls)

-- What a call of a valid scenario says.

-- what is declared has a size, which is one that a message may have
abbrev Sized : Decl → Type 0
Sized d = (size : ℕ) × (size_of d ≡ Some size) × (decl_fits d ≡ true → (nat_le 1 size && nat_le size longest_message) ≡ true)

-- an object of messages has messages that aren't too long
size-long : (decls : List Decl) (object : ℕ) (message : List ℕ) (test : Decl → Bool) → list_all decl_fits decls ≡ true → is_at test decls object ≡ true →
    ((d : Decl) → test d ≡ true → Sized d) →
    is_size (size_at decls object) (length message) ≡ true → is_message message ≡ true
size-long decls object message test fits is each long = by (slice_get decls object) refl is where
  by : (o : Option Decl) → slice_get decls object ≡ o → option_map_or test o false ≡ true → is_message message ≡ true
  by None there is = absurd (cc)
  by (Some d) there is =
      let sized = each d is in
      let size : size_at decls object ≡ Some sized.0 = ap (option_and_then size_of) there ∙ sized.1 in
      let same : length message ≡ sized.0 = eqb-true (length message) sized.0 (sym (ap (λ o. is_size o (length message)) size) ∙ long) in
      subst (λ (n : ℕ). (nat_le 1 n && nat_le n longest_message) ≡ true) (sym same) (sized.2 (list_all-at decl_fits decls object d fits there))

msgq-size : (d : Decl) → is_msgq d ≡ true → Sized d
msgq-size (decl_kinds.Msgq name size capacity raw) is = (size, refl, λ fits. (and_parts (nat_le 1 size && nat_le size longest_message) _ fits).0)
msgq-size d is = absurd (cc)

chan-size : (d : Decl) → is_chan d ≡ true → Sized d
chan-size (decl_kinds.Chan name message valid observers) is = (
  length message,
  refl,
  λ fits.
      (and_parts (is_message message) (fews.is_few observers) (and_parts (is_message message && fews.is_few observers) (all_different observers) fits).0).0,
)
chan-size d is = absurd (cc)

-- an object that a call names is declared, and meets what is asked of it
is-declared : (decls : List Decl) (asked : Need) (object : Ref) → ref_fits false decls asked object ≡ true →
    is_at (is_met asked) decls (ref_object object) ≡ true
is-declared decls asked (Known object) fits = fits
is-declared decls asked (Unknown name) fits = absurd (cc)

-- a message behind an object of messages isn't too long
message-long : (decls : List Decl) (asked : Need) (object : Ref) (message : List ℕ) (more : Bool) → list_all decl_fits decls ≡ true →
    ((d : Decl) → is_met asked d ≡ true → Sized d) →
    (ref_fits false decls asked object && (is_size (size_named decls (args.Object object)) (length message) && more)) ≡ true →
    is_message message ≡ true
message-long decls asked (Known object) message more each sized fits =
    let long = is_size (size_at decls object) (length message) in
    let parts = and_parts (is_at (is_met asked) decls object) (long && more) fits in
    size-long decls object message (is_met asked) each parts.0 sized (and_parts long more parts.1).0
message-long decls asked (Unknown name) message more each sized fits = absurd (cc)

plan_of-says : (decls : List Decl) (call : Call) → list_all decl_fits decls ≡ true → call_fits false decls call ≡ true →
    PlanSays decls (plan_of decls call)
plan_of-says decls (calls.Tick ticks) each fits = (tt, tt)
plan_of-says decls (calls.Put queue message timeout) each fits =
    message-long decls needs.Msgq queue message (wait_fits timeout && true) each msgq-size fits
plan_of-says decls (calls.PutFront queue message) each fits = message-long decls needs.Msgq queue message true each msgq-size fits
plan_of-says decls (calls.Mask chan observer on) each fits =
    let second = ref_fits false decls needs.Obs observer in
    let parts = and_parts (ref_fits false decls needs.Chan chan) (second && true) fits in
    is-declared decls needs.Obs observer (and_parts second true parts.1).0
plan_of-says decls (calls.Publish chan message timeout) each fits =
    let more = wait_fits timeout && true in
    let long = is_size (size_named decls (args.Object chan)) (length message) in
    let parts = and_parts (ref_fits false decls needs.Chan chan) (long && more) fits in
    (is-declared decls needs.Chan chan parts.0, message-long decls needs.Chan chan message more each chan-size fits)
plan_of-says decls (calls.Notify chan timeout) each fits =
    (is-declared decls needs.Chan chan (and_parts (ref_fits false decls needs.Chan chan) (wait_fits timeout && true) fits).0, tt)
plan_of-says decls (calls.Read chan timeout) each fits =
    (is-declared decls needs.Chan chan (and_parts (ref_fits false decls needs.Chan chan) (wait_fits timeout && true) fits).0, tt)
plan_of-says decls call each fits = tt

-- So does each attempt of its player.

role-says : (s : Content) (role : Role) (next : ℕ) (stage : Stage) → IsValid s → HasObjects s role next → All (SaysFit s.decls) (role_attempts s role next stage)
role-says s (Script owner) next stage valid has = by (slice_get (calls_of s.scripts owner) next) refl where
  by : (o : Option Call) → slice_get (calls_of s.scripts owner) next ≡ o → All (SaysFit s.decls) (call_attempts s.decls o stage)
  by None there = All-nil (SaysFit s.decls)
  by (Some call) there = attempts-say s.decls (plan_of s.decls call) stage (plan_of-says s.decls call valid.in_range (has call there))
role-says s (Worker queue) next stage valid has = worker-says s.decls (number_of s.decls queue) stage

own-top : (s : Content) (mode : Mode) (passed : ℕ) (frames : List Frame) → IsValid s → All (IsUsers s mode) frames → All (HasBegun s) frames → ArePassed s passed frames →
    next_check s mode passed frames ≡ None → TopHasObjects s frames
own-top s mode passed [] valid users begun are none = tt
own-top s mode passed (frame ∷ below) valid users begun are none =
    own-objects s mode passed frame below valid (All-head (IsUsers s mode) frame below users) (All-head (HasBegun s) frame below begun) are none

own-says : (s : Content) (frames : List Frame) (k : ℕ) (step : Step) → IsValid s → TopHasObjects s frames → slice_get (frames_attempts s frames) k ≡ Some step → SaysFit s.decls step
own-says s [] k step valid has is = absurd (cc)
own-says s (frame ∷ below) k step valid has is =
    All-at (SaysFit s.decls) (role_attempts s frame.role frame.next frame.stage) k step (role-says s frame.role frame.next frame.stage valid has) is

pub ahead-says : (s : Content) (at : PlayerPlace) (step : Step) → IsValid s → IsFit s at → IsAhead s at step → SaysFit s.decls step
ahead-says s at step valid fit ahead = by (one-or-other s at step ahead) where
  by : IsCheck s at step ⊎ IsOwn s at step → SaysFit s.decls step
  by (inl is) = subst (SaysFit s.decls) is.is_step tt
  by (inr is) = own-says s at.frames is.index step valid (own-top s at.mode at.passed at.frames valid fit.free fit.begun fit.passed is.none) is.ahead
