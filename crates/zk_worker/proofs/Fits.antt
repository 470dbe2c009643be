-- The attempts of a player name items, queues, semaphores, message queues, signals, channels and observers that are declared.
use Rattle.std.proofs.Common.{◌≡◌, ℕ, zero, suc, ◌+◌, Bool, true, false, Option, Some, None, is_some, List, [], ◌∷◌, length, All, refl, ap, subst, arith, nat_lt, ◌&&◌}
use Rattle.std.specs.Option.{option_map_or}
use Rattle.std.specs.List.{slice_get, list_all}
use Rattle.std.proofs.lemmas.Bool.{and_parts, and_from, lt-ltb}
use Rattle.std.proofs.lemmas.List.Elements.{All-nil, All-cons, All-head, All-tail}
use Rattle.zk_base.proofs.Lists.{slice_get-one, All-at}
use Rattle.zk_line.specs.declared.types.Decl.{Decl}
use Rattle.zk_line.specs.declared.types.Decl.TheVariants as decl_kinds
use Rattle.zk_line.specs.declared.types.Ref.TheVariants.{Known, Unknown}
use Rattle.zk_line.specs.declared.types.Call.{Call}
use Rattle.zk_line.specs.declared.types.Call.TheVariants as calls
use Rattle.zk_line.specs.Objects.{places, is_queue, is_item, is_sem, is_msgq, is_signal, is_chan, is_observer, is_met, can_be_raw, number_of, is_at, size_at}
use Rattle.zk_scenario.specs.Players.{calls_of}
use Rattle.zk_base.specs.declared.kinds.Need.TheVariants as need
use Rattle.zk_scenario.specs.Content.{Content}
use Rattle.zk_model_bus.specs.declared.channel.ChanOp.TheVariants as chan_ops
use Rattle.zk_model_wait.specs.declared.clock.ClockOp.TheVariants as clock_ops
use Rattle.zk_model_work.specs.declared.ops.WorkOp.TheVariants as ops
use Rattle.zk_words.specs.Numbers.{is_between}
use Rattle.zk_words.specs.declared.timeout.Timeout.{Timeout}
use Rattle.zk_words.specs.declared.timeout.Timeout.TheVariants.{No, Forever, Ticks}
use Rattle.zk_words.specs.Timeouts.{wait_fits}
use Rattle.zk_line.specs.declared.events.Event.{Event}
use Rattle.zk_line.specs.declared.events.Event.TheVariants as events
use Rattle.zk_line.specs.Checks.{is_size}
use Rattle.zk_line.specs.Fits.{event_fits, call_fits}
use Rattle.zk_line.proofs.Fits.{poll_fits}
use Rattle.zk_line.proofs.Tables.{length-places}
use Rattle.zk_scenario.proofs.Valid.{number_of-item, number_of-queue}
use Rattle.zk_worker.specs.declared.steps.Step.{Step}
use Rattle.zk_worker.specs.declared.steps.Step.TheVariants as steps
use Rattle.zk_worker.specs.declared.frames.Frame.{Frame}
use Rattle.zk_worker.specs.declared.frames.Closing.{Closing}
use Rattle.zk_worker.specs.declared.frames.Closing.TheVariants as closings
use Rattle.zk_worker.specs.declared.frames.Plan.{Plan}
use Rattle.zk_worker.specs.declared.frames.Plan.TheVariants.{One, Pair, Twice, Wait, Poll, Channel}
use Rattle.zk_worker.specs.declared.frames.Using.{Using}
use Rattle.zk_worker.specs.declared.frames.Using.TheVariants.{Publish, Notify, Read}
use Rattle.zk_worker.specs.declared.frames.Waiting.{Waiting}
use Rattle.zk_worker.specs.declared.frames.Waiting.TheVariants.{Take, Put, Get, Claim, SubWait, Offer, Enter}
use Rattle.zk_worker.specs.declared.frames.Stage.{Stage}
use Rattle.zk_worker.specs.declared.frames.Stage.TheVariants as stages
use Rattle.zk_worker.specs.declared.frames.Role.{Role}
use Rattle.zk_worker.specs.declared.frames.Role.TheVariants as roles
use Rattle.zk_worker.specs.declared.frames.Progress.{Progress}
use Rattle.zk_worker.specs.declared.frames.Progress.TheVariants.{Goes, Answers, Enters}
use Rattle.zk_worker.specs.Calls.{plan_of, closing_step, plan_attempts}
use Rattle.zk_worker.specs.Publishes.{asks_for, use_step, visit_step, channel_attempts}
use Rattle.zk_worker.specs.Waits.{open_step, end_step, quit_step, first_step, wait_attempts}
use Rattle.zk_worker.specs.Polls.{poll_attempts}
use Rattle.zk_worker.specs.Protocol.{worker_attempts, call_attempts, role_attempts, frames_attempts, frames_after, entered, first_frame, role_at, starting}
use Rattle.zk_line.proofs.NeedsThere.{at-any}
use Rattle.zk_worker.specs.Families.{is_declared}
use Rattle.zk_worker.specs.TableSetup.{is_object}
use Rattle.zk_worker.specs.Machines.{sem_start, msgq_start, signal_start, chan_start, observer_start}
use Rattle.zk_worker.specs.Ranges.{step_fits, role_fits, AreObservers, StageFits, FrameFits, FramesFit, HasObjects}
use Rattle.zk_worker.proofs.PollSteps.{is_source, poll_attempts-fit}
use Rattle.zk_worker.proofs.StageFits.{ProgressFits}
use Rattle.zk_worker.proofs.Limits.{settled-all, entered-all}

-- an item that a call names is one of the items
pub item-fits : (decls : List Decl) (object : ℕ) → is_at is_item decls object ≡ true → nat_lt (number_of decls object) (length (places is_item decls)) ≡ true
item-fits decls object is =
    lt-ltb (number_of decls object) (length (places is_item decls)) (omega (arith, number_of-item decls object is, length-places is_item decls))

-- a queue that a call names is one of the queues
queue-fits : (decls : List Decl) (object : ℕ) → is_at is_queue decls object ≡ true → nat_lt (number_of decls object) (length (places is_queue decls)) ≡ true
queue-fits decls object is =
    lt-ltb (number_of decls object) (length (places is_queue decls)) (omega (arith, number_of-queue decls object is, length-places is_queue decls))

-- an item and a queue that a call names are one of the items and one of the queues
both-fit : (decls : List Decl) (item queue : ℕ) → (is_at is_item decls item && is_at is_queue decls queue) ≡ true →
    (nat_lt (number_of decls item) (length (places is_item decls)) && nat_lt (number_of decls queue) (length (places is_queue decls))) ≡ true
both-fit decls item queue fits =
    let both = and_parts (is_at is_item decls item) (is_at is_queue decls queue) fits in
    and_from (nat_lt (number_of decls item) (length (places is_item decls))) (nat_lt (number_of decls queue) (length (places is_queue decls)))
    (item-fits decls item both.0) (queue-fits decls queue both.1)

-- what a call waits at is declared
waiting_fits : List Decl → Waiting → Bool
waiting_fits decls (Take object) = is_declared sem_start decls object
waiting_fits decls (Put object message) = is_declared msgq_start decls object
waiting_fits decls (Get object) = is_declared msgq_start decls object
waiting_fits decls (Claim object) = is_declared chan_start decls object
waiting_fits decls (SubWait object) = is_declared observer_start decls object
waiting_fits decls (Offer object message) = is_declared chan_start decls object
waiting_fits decls (Enter object) = is_declared chan_start decls object

-- the steps that a fitting call makes fit
PlanFits : List Decl → Plan → Type 0
PlanFits decls (One step) = step_fits decls step ≡ true
PlanFits decls (Pair opening closing) = step_fits decls opening ≡ true
PlanFits decls (Twice first second) = (step_fits decls first ≡ true) × (step_fits decls second ≡ true)
PlanFits decls (Wait waiting timeout) = waiting_fits decls waiting ≡ true
PlanFits decls (Poll timeout events) = All (λ event. is_source decls event ≡ true) events
PlanFits decls (Channel chan using timeout) = is_declared chan_start decls chan ≡ true

-- a call of one object, an item or a queue
item-alone : (decls : List Decl) (item : ℕ) → (is_at is_item decls item && true) ≡ true → nat_lt (number_of decls item) (length (places is_item decls)) ≡ true
item-alone decls item fits = item-fits decls item (and_parts (is_at is_item decls item) true fits).0

queue-first : (decls : List Decl) (queue : ℕ) (more : Bool) → (is_at is_queue decls queue && more) ≡ true → nat_lt (number_of decls queue) (length (places is_queue decls)) ≡ true
queue-first decls queue more fits = queue-fits decls queue (and_parts (is_at is_queue decls queue) more fits).0

-- a call of an item, a queue and a delay
delayed-fit : (decls : List Decl) (item queue : ℕ) (more : Bool) → (is_at is_item decls item && (is_at is_queue decls queue && more)) ≡ true →
    (nat_lt (number_of decls item) (length (places is_item decls)) && nat_lt (number_of decls queue) (length (places is_queue decls))) ≡ true
delayed-fit decls item queue more fits =
    let first = and_parts (is_at is_item decls item) (is_at is_queue decls queue && more) fits in
    let second = and_parts (is_at is_queue decls queue) more first.1 in
    both-fit decls item queue (and_from (is_at is_item decls item) (is_at is_queue decls queue) first.0 second.0)

-- what a call names as an object of such a kind is declared as one
declared-at : {S : Type 0} (start : Decl → Option S) (test : Decl → Bool) (decls : List Decl) (object : ℕ) →
    ((decl : Decl) → test decl ≡ true → is_some (start decl) ≡ true) →
    is_at test decls object ≡ true → is_declared start decls object ≡ true
declared-at start test decls object each is = by_decl (slice_get decls object) is
  where
    by_decl : (decl : Option Decl) → option_map_or test decl false ≡ true →
        option_map_or (λ decl. is_some (start decl)) decl false ≡ true
    by_decl None is = absurd (cc)
    by_decl (Some decl) is = each decl is

sem-declared : (decls : List Decl) (sem : ℕ) (more : Bool) → (is_at is_sem decls sem && more) ≡ true →
    is_declared sem_start decls sem ≡ true
sem-declared decls sem more fits = declared-at sem_start is_sem decls sem starts (and_parts (is_at is_sem decls sem) more fits).0
  where
    starts : (decl : Decl) → is_sem decl ≡ true → is_some (sem_start decl) ≡ true
    starts (decl_kinds.Sem name initial limit raw) is = refl
    starts decl is = absurd (cc)

msgq-declared : (decls : List Decl) (queue : ℕ) (more : Bool) → (is_at is_msgq decls queue && more) ≡ true →
    is_declared msgq_start decls queue ≡ true
msgq-declared decls queue more fits =
    declared-at msgq_start is_msgq decls queue starts (and_parts (is_at is_msgq decls queue) more fits).0
  where
    starts : (decl : Decl) → is_msgq decl ≡ true → is_some (msgq_start decl) ≡ true
    starts (decl_kinds.Msgq name size capacity raw) is = refl
    starts decl is = absurd (cc)

chan-declared : (decls : List Decl) (chan : ℕ) (more : Bool) → (is_at is_chan decls chan && more) ≡ true →
    is_declared chan_start decls chan ≡ true
chan-declared decls chan more fits = declared-at chan_start is_chan decls chan starts (and_parts (is_at is_chan decls chan) more fits).0
  where
    starts : (decl : Decl) → is_chan decl ≡ true → is_some (chan_start decl) ≡ true
    starts (decl_kinds.Chan name message valid observers) is = refl
    starts decl is = absurd (cc)

observer-declared : (decls : List Decl) (observer : ℕ) (more : Bool) → (is_at is_observer decls observer && more) ≡ true →
    is_declared observer_start decls observer ≡ true
observer-declared decls observer more fits =
    declared-at observer_start is_observer decls observer starts (and_parts (is_at is_observer decls observer) more fits).0
  where
    starts : (decl : Decl) → is_observer decl ≡ true → is_some (observer_start decl) ≡ true
    starts (decl_kinds.Listener name) is = refl
    starts (decl_kinds.Sub name capacity) is = refl
    starts decl is = absurd (cc)

sub-declared : (decls : List Decl) (sub : ℕ) (more : Bool) → (is_at (is_met need.Sub) decls sub && more) ≡ true →
    is_declared observer_start decls sub ≡ true
sub-declared decls sub more fits =
    declared-at observer_start (is_met need.Sub) decls sub starts (and_parts (is_at (is_met need.Sub) decls sub) more fits).0
  where
    starts : (decl : Decl) → is_met need.Sub decl ≡ true → is_some (observer_start decl) ≡ true
    starts (decl_kinds.Sub name capacity) is = refl
    starts decl is = absurd (cc)

signal-declared : (decls : List Decl) (signal : ℕ) (more : Bool) → (is_at is_signal decls signal && more) ≡ true →
    is_declared signal_start decls signal ≡ true
signal-declared decls signal more fits =
    declared-at signal_start is_signal decls signal starts (and_parts (is_at is_signal decls signal) more fits).0
  where
    starts : (decl : Decl) → is_signal decl ≡ true → is_some (signal_start decl) ≡ true
    starts (decl_kinds.Signal name raw) is = refl
    starts decl is = absurd (cc)

-- what an event of a fitting call names is declared as what it names
event-source : (decls : List Decl) (event : Event) → event_fits false decls event ≡ true → is_source decls event ≡ true
event-source decls events.Ignore fits = refl
event-source decls (events.Sem (Known sem)) fits = sem-declared decls sem true (and_from (is_at is_sem decls sem) true fits refl)
event-source decls (events.Msgq (Known queue)) fits = msgq-declared decls queue true (and_from (is_at is_msgq decls queue) true fits refl)
event-source decls (events.Sig (Known signal)) fits = signal-declared decls signal true (and_from (is_at is_signal decls signal) true fits refl)
event-source decls event fits = absurd (cc)

events-sources : (decls : List Decl) (list : List Event) → list_all (event_fits false decls) list ≡ true →
    All (λ event. is_source decls event ≡ true) list
events-sources decls [] fits = let P : Event → Type 0 = λ event. is_source decls event ≡ true in All-nil P
events-sources decls (event ∷ more) fits =
    let P : Event → Type 0 = λ event. is_source decls event ≡ true in
    let both = and_parts (event_fits false decls event) (list_all (event_fits false decls) more) fits in
    All-cons P event more (event-source decls event both.0) (events-sources decls more both.1)

-- a thread, and an object for it
thread-object : (decls : List Decl) (thread object : ℕ) → (is_at (is_met need.Thread) decls thread && (is_object decls object && true)) ≡ true →
    (is_at (is_met need.Thread) decls thread && is_object decls object) ≡ true
thread-object decls thread object fits =
    let both = and_parts (is_at (is_met need.Thread) decls thread) (is_object decls object && true) fits in
    and_from (is_at (is_met need.Thread) decls thread) (is_object decls object) both.0 (and_parts (is_object decls object) true both.1).0

-- a second object that is none's doesn't fit
no-second : (a b : Bool) → (a && (false && b)) ≡ true → ⊥
no-second true b fits = cc
no-second false b fits = cc

plan_of-fits : (decls : List Decl) (call : Call) → call_fits false decls call ≡ true → PlanFits decls (plan_of decls call)
unfolding PlanFits waiting_fits
plan_of-fits decls (calls.Submit (Known item) None) fits =
    and_from (nat_lt (number_of decls item) (length (places is_item decls))) true (item-alone decls item fits) refl
plan_of-fits decls (calls.Submit (Known item) (Some (Known queue))) fits = both-fit decls item queue fits
plan_of-fits decls (calls.Cancel (Known item)) fits = item-alone decls item fits
plan_of-fits decls (calls.CancelSync (Known item)) fits = item-alone decls item fits
plan_of-fits decls (calls.Flush (Known item)) fits = item-alone decls item fits
plan_of-fits decls (calls.Schedule (Known item) (Known queue) delay) fits =
    delayed-fit decls item queue (is_between 0 1000000 delay && true) fits
plan_of-fits decls (calls.Reschedule (Known item) (Known queue) delay) fits =
    delayed-fit decls item queue (is_between 0 1000000 delay && true) fits
plan_of-fits decls (calls.Remaining (Known item)) fits = item-alone decls item fits
plan_of-fits decls (calls.Busy (Known item)) fits = (and_parts (is_at is_item decls item) true fits).0
plan_of-fits decls (calls.Start (Known queue)) fits = queue-first decls queue true fits
plan_of-fits decls (calls.Drain (Known queue) plug) fits = queue-first decls queue true fits
plan_of-fits decls (calls.Unplug (Known queue)) fits = queue-first decls queue true fits
plan_of-fits decls (calls.Stop (Known queue)) fits = queue-first decls queue true fits
plan_of-fits decls (calls.Tick ticks) fits = (refl, refl)
plan_of-fits decls (calls.Take (Known sem) timeout) fits = sem-declared decls sem (wait_fits timeout && true) fits
plan_of-fits decls (calls.Give (Known sem)) fits = sem-declared decls sem true fits
plan_of-fits decls (calls.Reset (Known sem)) fits = sem-declared decls sem true fits
plan_of-fits decls (calls.Count (Known sem)) fits = sem-declared decls sem true fits
plan_of-fits decls (calls.Put (Known queue) message timeout) fits =
    msgq-declared decls queue (is_size (size_at decls queue) (length message) && (wait_fits timeout && true)) fits
plan_of-fits decls (calls.PutFront (Known queue) message) fits =
    msgq-declared decls queue (is_size (size_at decls queue) (length message) && true) fits
plan_of-fits decls (calls.Get (Known queue) timeout) fits = msgq-declared decls queue (wait_fits timeout && true) fits
plan_of-fits decls (calls.Peek (Known queue)) fits = msgq-declared decls queue true fits
plan_of-fits decls (calls.PeekAt (Known queue) index) fits = msgq-declared decls queue (is_between 0 255 index && true) fits
plan_of-fits decls (calls.Purge (Known queue)) fits = msgq-declared decls queue true fits
plan_of-fits decls (calls.Used (Known queue)) fits = msgq-declared decls queue true fits
plan_of-fits decls (calls.Free (Known queue)) fits = msgq-declared decls queue true fits
plan_of-fits decls (calls.Raise (Known signal) value) fits = signal-declared decls signal (is_between 0 65535 value && true) fits
plan_of-fits decls (calls.Clear (Known signal)) fits = signal-declared decls signal true fits
plan_of-fits decls (calls.Check (Known signal)) fits = signal-declared decls signal true fits
plan_of-fits decls (calls.Claim (Known chan) timeout) fits = chan-declared decls chan (wait_fits timeout && true) fits
plan_of-fits decls (calls.Finish (Known chan)) fits = chan-declared decls chan true fits
plan_of-fits decls (calls.Mask (Known chan) (Known observer) on) fits = chan-declared decls chan (is_at is_observer decls observer && true) fits
plan_of-fits decls (calls.Enable (Known observer) on) fits = observer-declared decls observer true fits
plan_of-fits decls (calls.SubWait (Known sub) timeout) fits = sub-declared decls sub (wait_fits timeout && true) fits
plan_of-fits decls (calls.Publish (Known chan) message timeout) fits =
    chan-declared decls chan (is_size (size_at decls chan) (length message) && (wait_fits timeout && true)) fits
plan_of-fits decls (calls.Notify (Known chan) timeout) fits = chan-declared decls chan (wait_fits timeout && true) fits
plan_of-fits decls (calls.Read (Known chan) timeout) fits = chan-declared decls chan (wait_fits timeout && true) fits
plan_of-fits decls (calls.Grant (Known thread) (Known object)) fits = thread-object decls thread object fits
plan_of-fits decls (calls.Release (Known object)) fits = (and_parts (is_object decls object) true fits).0
plan_of-fits decls (calls.Revoke (Known thread) (Known object)) fits = thread-object decls thread object fits
plan_of-fits decls (calls.Public (Known object)) fits = (and_parts (is_object decls object) true fits).0
plan_of-fits decls (calls.Init (Known object)) fits = at-any can_be_raw decls object (and_parts (is_at can_be_raw decls object) true fits).0
plan_of-fits decls calls.User fits = refl
plan_of-fits decls (calls.Poll timeout list) fits = events-sources decls list (poll_fits false decls timeout list fits).1
plan_of-fits decls (calls.Submit (Known item) (Some (Unknown name))) fits = absurd (no-second (is_at is_item decls item) true fits)
plan_of-fits decls (calls.Schedule (Known item) (Unknown name) delay) fits = absurd (no-second (is_at is_item decls item) (is_between 0 1000000 delay && true) fits)
plan_of-fits decls (calls.Reschedule (Known item) (Unknown name) delay) fits = absurd (no-second (is_at is_item decls item) (is_between 0 1000000 delay && true) fits)
plan_of-fits decls (calls.Mask (Known chan) (Unknown name) on) fits = absurd (no-second (is_at is_chan decls chan) true fits)
plan_of-fits decls (calls.Grant (Known thread) (Unknown name)) fits = absurd (no-second (is_at (is_met need.Thread) decls thread) true fits)
plan_of-fits decls (calls.Revoke (Known thread) (Unknown name)) fits = absurd (no-second (is_at (is_met need.Thread) decls thread) true fits)
plan_of-fits decls call fits = absurd (cc)

-- the steps of a wait are at its object
open-fits : (decls : List Decl) (waiting : Waiting) (waits : Bool) → waiting_fits decls waiting ≡ true →
    step_fits decls (open_step waiting waits) ≡ true
unfolding waiting_fits
open-fits decls (Take object) waits fits = fits
open-fits decls (Put object message) waits fits = fits
open-fits decls (Get object) waits fits = fits
open-fits decls (Claim object) waits fits = fits
open-fits decls (SubWait object) waits fits = fits
open-fits decls (Offer object message) waits fits = fits
open-fits decls (Enter object) waits fits = fits

end-fits : (decls : List Decl) (waiting : Waiting) (place : ℕ) → waiting_fits decls waiting ≡ true →
    step_fits decls (end_step waiting place) ≡ true
unfolding waiting_fits
end-fits decls (Take object) place fits = fits
end-fits decls (Put object message) place fits = fits
end-fits decls (Get object) place fits = fits
end-fits decls (Claim object) place fits = fits
end-fits decls (SubWait object) place fits = fits
end-fits decls (Offer object message) place fits = fits
end-fits decls (Enter object) place fits = fits

quit-fits : (decls : List Decl) (waiting : Waiting) (place : ℕ) → waiting_fits decls waiting ≡ true →
    step_fits decls (quit_step waiting place) ≡ true
unfolding waiting_fits
quit-fits decls (Take object) place fits = fits
quit-fits decls (Put object message) place fits = fits
quit-fits decls (Get object) place fits = fits
quit-fits decls (Claim object) place fits = fits
quit-fits decls (SubWait object) place fits = fits
quit-fits decls (Offer object message) place fits = fits
quit-fits decls (Enter object) place fits = fits

first-fits : (decls : List Decl) (waiting : Waiting) (timeout : Timeout) → waiting_fits decls waiting ≡ true →
    step_fits decls (first_step waiting timeout) ≡ true
first-fits decls waiting No fits = open-fits decls waiting false fits
first-fits decls waiting Forever fits = open-fits decls waiting true fits
first-fits decls waiting (Ticks ticks) fits = refl

closing-fits : (decls : List Decl) (closing : Closing) (place : ℕ) → step_fits decls (closing_step closing place) ≡ true
closing-fits decls closings.Cancel place = refl
closing-fits decls closings.Flush place = refl
closing-fits decls closings.Drain place = refl

-- what holds of one attempt holds of each that there is, where it is the only one
one-fits : (decls : List Decl) (only : Step) (k : ℕ) (step : Step) → step_fits decls only ≡ true →
    slice_get (only ∷ []) k ≡ Some step → step_fits decls step ≡ true
one-fits decls only k step fits is = subst (λ s. step_fits decls s ≡ true) (slice_get-one only step k is) fits

wait_attempts-fit : (decls : List Decl) (waiting : Waiting) (timeout : Timeout) (stage : Stage) (k : ℕ) (step : Step) →
    waiting_fits decls waiting ≡ true → slice_get (wait_attempts waiting timeout stage) k ≡ Some step →
    step_fits decls step ≡ true
wait_attempts-fit decls waiting timeout stages.Start k step fits is =
    one-fits decls (first_step waiting timeout) k step (first-fits decls waiting timeout fits) is
wait_attempts-fit decls waiting timeout (stages.Alarmed moment) k step fits is =
    one-fits decls (open_step waiting true) k step (open-fits decls waiting true fits) is
wait_attempts-fit decls waiting timeout (stages.Waits place) k step fits is =
    one-fits decls (end_step waiting place) k step (end-fits decls waiting place fits) is
wait_attempts-fit decls waiting timeout (stages.WaitsUntil place moment) zero step fits is =
    one-fits decls (end_step waiting place) zero step (end-fits decls waiting place fits) is
wait_attempts-fit decls waiting timeout (stages.WaitsUntil place moment) (suc k) step fits is =
    one-fits decls (steps.Clock (clock_ops.AlarmEnd moment)) k step refl is
wait_attempts-fit decls waiting timeout (stages.Quits place) k step fits is =
    one-fits decls (quit_step waiting place) k step (quit-fits decls waiting place fits) is
wait_attempts-fit decls waiting timeout stage k step fits is = absurd (cc)

-- what a call does with its channel is at that channel, and its visits are at observers
asks-fits : (decls : List Decl) (chan : ℕ) (using : Using) → is_declared chan_start decls chan ≡ true → waiting_fits decls (asks_for chan using) ≡ true
unfolding waiting_fits
asks-fits decls chan (Publish message) fits = fits
asks-fits decls chan Notify fits = fits
asks-fits decls chan Read fits = fits

use-fits : (decls : List Decl) (chan : ℕ) (using : Using) → is_declared chan_start decls chan ≡ true → step_fits decls (use_step chan using) ≡ true
use-fits decls chan (Publish message) fits = fits
use-fits decls chan Notify fits = fits
use-fits decls chan Read fits = fits

visit-fits : (decls : List Decl) (chan : ℕ) (left : List ℕ) → is_declared chan_start decls chan ≡ true → AreObservers decls left →
    step_fits decls (visit_step chan left) ≡ true
visit-fits decls chan [] fits are = fits
visit-fits decls chan (observer ∷ left) fits are = All-head (λ o. is_declared observer_start decls o ≡ true) observer left are

channel_attempts-fit : (decls : List Decl) (chan : ℕ) (using : Using) (timeout : Timeout) (stage : Stage) (k : ℕ) (step : Step) →
    is_declared chan_start decls chan ≡ true → StageFits decls stage → slice_get (channel_attempts chan using timeout stage) k ≡ Some step →
    step_fits decls step ≡ true
channel_attempts-fit decls chan using timeout stages.Holds k step fits at is = one-fits decls (use_step chan using) k step (use-fits decls chan using fits) is
channel_attempts-fit decls chan using timeout (stages.Visits left full) k step fits at is =
    one-fits decls (visit_step chan left) k step (visit-fits decls chan left fits at) is
channel_attempts-fit decls chan using timeout (stages.Reads message) k step fits at is = one-fits decls (steps.Chan chan chan_ops.Free) k step fits is
channel_attempts-fit decls chan using timeout stage k step fits at is =
    wait_attempts-fit decls (asks_for chan using) timeout stage k step (asks-fits decls chan using fits) is

-- all that a plan tries fits
plan_attempts-fit : (decls : List Decl) (plan : Plan) (stage : Stage) (k : ℕ) (step : Step) →
    PlanFits decls plan → StageFits decls stage → slice_get (plan_attempts plan stage) k ≡ Some step → step_fits decls step ≡ true
unfolding PlanFits
plan_attempts-fit decls (One first) stages.Start k step fits at is = one-fits decls first k step fits is
plan_attempts-fit decls (One first) stage k step fits at is = absurd (cc)
plan_attempts-fit decls (Pair opening closing) stages.Start k step fits at is = one-fits decls opening k step fits is
plan_attempts-fit decls (Pair opening closing) (stages.Waits place) k step fits at is =
    one-fits decls (closing_step closing place) k step (closing-fits decls closing place) is
plan_attempts-fit decls (Pair opening closing) stage k step fits at is = absurd (cc)
plan_attempts-fit decls (Twice first second) stages.Start k step fits at is = one-fits decls first k step fits.0 is
plan_attempts-fit decls (Twice first second) stages.Halfway k step fits at is = one-fits decls second k step fits.1 is
plan_attempts-fit decls (Twice first second) stage k step fits at is = absurd (cc)
plan_attempts-fit decls (Wait waiting timeout) stage k step fits at is = wait_attempts-fit decls waiting timeout stage k step fits is
plan_attempts-fit decls (Poll timeout list) stage k step fits at is =
    let P : Step → Type 0 = λ s. step_fits decls s ≡ true in
    All-at P (poll_attempts timeout list stage) k step (poll_attempts-fit decls timeout list stage fits) is
plan_attempts-fit decls (Channel chan using timeout) stage k step fits at is = channel_attempts-fit decls chan using timeout stage k step fits at is

call_attempts-fit : (decls : List Decl) (call : Option Call) (stage : Stage) (k : ℕ) (step : Step) →
    option_map_or (call_fits false decls) call true ≡ true → StageFits decls stage → slice_get (call_attempts decls call stage) k ≡ Some step → step_fits decls step ≡ true
call_attempts-fit decls None stage k step fits at is = absurd (cc)
call_attempts-fit decls (Some call) stage k step fits at is = plan_attempts-fit decls (plan_of decls call) stage k step (plan_of-fits decls call fits) at is

worker_attempts-fit : (decls : List Decl) (queue : ℕ) (stage : Stage) (k : ℕ) (step : Step) →
    nat_lt queue (length (places is_queue decls)) ≡ true → slice_get (worker_attempts queue stage) k ≡ Some step → step_fits decls step ≡ true
worker_attempts-fit decls queue stages.Start k step fits is = one-fits decls (steps.Work (ops.Begin queue)) k step fits is
worker_attempts-fit decls queue stages.Runs k step fits is = one-fits decls (steps.Work (ops.End queue)) k step fits is
worker_attempts-fit decls queue stage k step fits is = absurd (cc)

-- the next call of a script, where it has the objects that it needs
call-met : (s : Content) (owner next : ℕ) → HasObjects s (roles.Script owner) next → option_map_or (call_fits false s.decls) (slice_get (calls_of s.scripts owner) next) true ≡ true
call-met s owner next met = by (slice_get (calls_of s.scripts owner) next) refl where
  by : (o : Option Call) → slice_get (calls_of s.scripts owner) next ≡ o → option_map_or (call_fits false s.decls) o true ≡ true
  by None there = refl
  by (Some call) there = met call there

role_attempts-fit : (s : Content) (role : Role) (next : ℕ) (stage : Stage) (k : ℕ) (step : Step) → HasObjects s role next →
    role_fits s.decls role ≡ true → StageFits s.decls stage → slice_get (role_attempts s role next stage) k ≡ Some step → step_fits s.decls step ≡ true
role_attempts-fit s (roles.Script owner) next stage k step met fits at is =
    call_attempts-fit s.decls (slice_get (calls_of s.scripts owner) next) stage k step (call-met s owner next met) at is
role_attempts-fit s (roles.Worker queue) next stage k step met fits at is =
    worker_attempts-fit s.decls (number_of s.decls queue) stage k step (queue-fits s.decls queue fits) is

-- that of the innermost open script has them
abbrev pub TopHasObjects : Content → List Frame → Type 0
TopHasObjects s [] = Unit {0}
TopHasObjects s (frame ∷ below) = HasObjects s frame.role frame.next

-- each attempt of what is open names what is declared
pub frames_attempts-fit : (s : Content) (frames : List Frame) (k : ℕ) (step : Step) → TopHasObjects s frames →
    FramesFit s.decls frames → slice_get (frames_attempts s frames) k ≡ Some step → step_fits s.decls step ≡ true
frames_attempts-fit s [] k step met fits is = absurd (cc)
frames_attempts-fit s (frame ∷ below) k step met fits is =
    let here = All-head (FrameFits s.decls) frame below fits in
    role_attempts-fit s frame.role frame.next frame.stage k step met here.0 here.1 is

pub frames_after-fit : (s : Content) (frames : List Frame) (progress : Progress) → FramesFit s.decls frames → ProgressFits s.decls progress →
    FramesFit s.decls (frames_after s frames progress)
frames_after-fit s [] progress fits more = fits
frames_after-fit s (frame ∷ below) (Goes stage) fits more =
    let F : Frame → Type 0 = FrameFits s.decls in
    All-cons F (record frame { stage = stage }) below ((All-head F frame below fits).0, more) (All-tail F frame below fits)
frames_after-fit s (frame ∷ below) (Answers word answer) fits more =
    let F : Frame → Type 0 = FrameFits s.decls in
    let next = record frame { next = frame.next + 1; stage = stages.Start } in
    settled-all F s (next ∷ below) (All-cons F next below ((All-head F frame below fits).0, tt) (All-tail F frame below fits))
frames_after-fit s (frame ∷ below) (Enters owner stage) fits more =
    let F : Frame → Type 0 = FrameFits s.decls in
    let next = record frame { stage = stage } in
    settled-all F s (entered (next ∷ below) owner) (entered-all F (next ∷ below) owner (refl, tt)
    (All-cons F next below ((All-head F frame below fits).0, more.0) (All-tail F frame below fits)))

role_at-fits : (decls : List Decl) (object : ℕ) (decl : Decl) → slice_get decls object ≡ Some decl → role_fits decls (role_at decl object) ≡ true
role_at-fits decls object (decl_kinds.Thread name prio user) is = refl
role_at-fits decls object (decl_kinds.Queue name prio on) is = ap (λ (o : Option Decl). option_map_or is_queue o false) is
role_at-fits decls object decl is = refl

pub starting-fits : (s : Content) (number object : ℕ) (decl : Decl) → slice_get s.decls object ≡ Some decl → FramesFit s.decls (starting s number object decl).frames
starting-fits s number object decl is =
    let F : Frame → Type 0 = FrameFits s.decls in
    let first = first_frame (role_at decl object) in
    settled-all F s (first ∷ []) (All-cons F first [] (role_at-fits s.decls object decl is, tt) (All-nil F))
