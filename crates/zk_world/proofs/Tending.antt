-- A worker tends its queue where it starts, and after each step of its own.
use Rattle.std.proofs.Common.{◌≡◌, ℕ, zero, suc, ◌+◌, Bool, true, false, cond, Option, Some, None, List, [], ◌∷◌, ◌++◌, length, take, count_by, refl, sym, ap, subst, ◌∙◌, arith, nat_lt, All}
use Rattle.std.specs.List.{slice_get}
use Rattle.std.specs.Option.{option_map, option_map_or}
use Rattle.std.proofs.lemmas.List.Elements.{All-nil, All-cons}
use Rattle.std.proofs.lemmas.Option.{option_and_then_some}
use Rattle.zk_base.specs.declared.ids.Who.{Who}
use Rattle.zk_base.proofs.Lists.{slice_get-one}
use Rattle.zk_line.specs.declared.types.Decl.{Decl}
use Rattle.zk_line.specs.declared.types.Decl.TheVariants as decls
use Rattle.zk_line.specs.declared.types.Call.{Call}
use Rattle.zk_line.specs.declared.types.Call.TheVariants as calls
use Rattle.zk_scenario.specs.Content.{Content}
use Rattle.zk_line.specs.Objects.{places_from, places, is_at, is_thread, is_queue, is_item, has_kind_of, number_of}
use Rattle.zk_scenario.specs.Players.{players, calls_of}
use Rattle.zk_line.proofs.Lists.{count_by-cons}
use Rattle.zk_model_wait.specs.declared.clock.ClockOp.TheVariants as clock_ops
use Rattle.zk_model_work.specs.declared.ops.WorkOp.{WorkOp}
use Rattle.zk_model_work.specs.declared.ops.WorkOp.TheVariants as ops
use Rattle.zk_model_work.specs.declared.ops.WorkReply.{WorkReply}
use Rattle.zk_model_work.specs.State.{State}
use Rattle.zk_model_work.specs.Machine.{work_reply}
use Rattle.zk_worker.specs.declared.steps.Step.{Step}
use Rattle.zk_worker.specs.declared.steps.Step.TheVariants as steps
use Rattle.zk_worker.specs.declared.steps.StepReply.{StepReply}
use Rattle.zk_worker.specs.declared.steps.StepReply.TheVariants as step_replies
use Rattle.zk_worker.specs.declared.frames.Frame.{Frame}
use Rattle.zk_worker.specs.declared.frames.TheConstants.{MOST_FRAMES}
use Rattle.zk_worker.specs.declared.frames.Role.{Role}
use Rattle.zk_worker.specs.declared.frames.Role.TheVariants.{Script, Worker}
use Rattle.zk_worker.specs.declared.frames.Stage.{Stage}
use Rattle.zk_worker.specs.declared.frames.Closing.{Closing}
use Rattle.zk_worker.specs.declared.frames.Closing.TheVariants as closings
use Rattle.zk_worker.specs.Places.{PlayerPlace}
use Rattle.zk_worker.specs.declared.checks.Mode.{Mode}
use Rattle.zk_worker.specs.declared.checks.Mode.TheVariants.{Supervisor}
use Rattle.zk_worker.specs.Checks.{next_check, mode_after}
use Rattle.zk_worker.proofs.CheckedSteps.{turn}
use Rattle.zk_worker.specs.Protocol.{IsAhead, call_attempts, frames_attempts, frames_progress, frames_after, call_progress, run_progress, is_over, settled, entered, first_frame, starting, start_at, after}
use Rattle.zk_world.specs.Tending.{begun_by, IsWorkers, IsScript, WorksQueue, Works}
use Rattle.zk_model_work.proofs.Runs.{IsCalled, begin-told}
use Rattle.zk_model_bus.specs.declared.channel.ChanOp.TheVariants as chan_ops
use Rattle.zk_model_bus.specs.declared.table.TableOp.TheVariants as table_ops
use Rattle.zk_words.specs.declared.timeout.Timeout.{Timeout}
use Rattle.zk_words.specs.declared.timeout.Timeout.TheVariants.{No, Forever, Ticks}
use Rattle.zk_worker.specs.declared.frames.Waiting.{Waiting}
use Rattle.zk_worker.specs.declared.frames.Waiting.TheVariants.{Take, Put, Get, Claim, SubWait, Offer, Enter}
use Rattle.zk_worker.specs.declared.frames.Plan.{Plan}
use Rattle.zk_worker.specs.declared.frames.Plan.TheVariants.{One, Pair, Twice, Wait, Poll, Channel}
use Rattle.zk_worker.specs.declared.frames.Stage.TheVariants.{Start, Runs, Waits, Halfway, Alarmed, WaitsUntil, Quits, Holds, Visits, Reads}
use Rattle.zk_worker.specs.declared.frames.Mark.{Mark}
use Rattle.zk_worker.specs.declared.frames.Mark.TheVariants.{Armed}
use Rattle.zk_line.specs.declared.events.Event.{Event}
use Rattle.zk_line.specs.declared.events.Event.TheVariants as sources
use Rattle.zk_worker.specs.Refs.{ref_object}
use Rattle.zk_model_wait.specs.declared.sem.SemOp.TheVariants as sem_ops
use Rattle.zk_model_wait.specs.declared.msgq.MsgqOp.TheVariants as msgq_ops
use Rattle.zk_worker.specs.Polls.{ask_step, watch_step, drop_step, poll_attempts}
use Rattle.zk_worker.proofs.PollSteps.{poll_attempts-each}
use Rattle.zk_worker.specs.declared.frames.Progress.{Progress}
use Rattle.zk_worker.specs.declared.frames.Progress.TheVariants.{Goes, Answers, Enters}
use Rattle.zk_worker.specs.Calls.{plan_of, closing_step, plan_attempts}
use Rattle.zk_worker.specs.Waits.{open_step, end_step, quit_step, first_step, wait_attempts}
use Rattle.zk_worker.specs.Publishes.{asks_for, use_step, visit_step, channel_attempts}
use Rattle.zk_worker.specs.declared.frames.Using.{Using}
use Rattle.zk_worker.specs.declared.frames.Using.TheVariants.{Publish, Notify, Read}
use Rattle.zk_line.specs.Calls.{is_user_call}
use Rattle.zk_scenario.specs.Valid.{IsValid}
use Rattle.zk_scenario.proofs.Valid.{user-owner}
use Rattle.zk_worker.proofs.StageFits.{ProgressFits}
use Rattle.zk_base.proofs.Lists.{All-at}

workers-keep : (ds : List Decl) (queue : ℕ) (role : Role) (stage : Stage) (old new : Bool) → (old ≡ false → new ≡ false) →
    IsWorkers ds queue role stage old → IsWorkers ds queue role stage new
workers-keep ds queue (Worker object) Start old new keeps tends = (tends.0, keeps tends.1)
workers-keep ds queue (Worker object) Runs old new keeps tends = tends
workers-keep ds queue role stage old new keeps tends = absurd tends

-- what begins no run leaves its queue tended
tends-keep : (ds : List Decl) (queue : ℕ) (frames : List Frame) (old new : Bool) → (old ≡ false → new ≡ false) →
    WorksQueue ds queue frames old → WorksQueue ds queue frames new
tends-keep ds queue [] old new keeps tends = absurd tends
tends-keep ds queue (frame ∷ []) old new keeps tends = workers-keep ds queue frame.role frame.stage old new keeps tends
tends-keep ds queue (frame ∷ next ∷ below) old new keeps tends = (tends.0, tends-keep ds queue (next ∷ below) old new keeps tends.1)

never-over : (s : Content) (queue : ℕ) (role : Role) (next : ℕ) (stage : Stage) (begun : Bool) → IsWorkers s.decls queue role stage begun → is_over s role next ≡ false
never-over s queue (Worker object) next stage begun tends = refl
never-over s queue (Script owner) next stage begun tends = absurd tends

-- the run of a worker stays where its scripts are over
tends-settled : (s : Content) (queue : ℕ) (frames : List Frame) (begun : Bool) → WorksQueue s.decls queue frames begun → WorksQueue s.decls queue (settled s frames) begun
tends-settled s queue [] begun tends = tends
tends-settled s queue (frame ∷ []) begun tends =
    subst (λ b. WorksQueue s.decls queue (cond b [] (frame ∷ [])) begun) (sym (never-over s queue frame.role frame.next frame.stage begun tends)) tends
tends-settled s queue (frame ∷ next ∷ below) begun tends =
    elim (is_over s frame.role frame.next) as (λ b. WorksQueue s.decls queue (cond b (settled s (next ∷ below)) (frame ∷ next ∷ below)) begun)
    [ true ↦ tends-settled s queue (next ∷ below) begun tends.1 | false ↦ tends ]

tends-entered : (ds : List Decl) (queue owner : ℕ) (frame : Frame) (below : List Frame) (begun : Bool) → is_at is_thread ds owner ≡ false →
    WorksQueue ds queue (frame ∷ below) begun → WorksQueue ds queue (entered (frame ∷ below) owner) begun
tends-entered ds queue owner frame below begun none tends =
    elim (nat_lt (length (frame ∷ below)) MOST_FRAMES) as (λ b. WorksQueue ds queue (cond b (first_frame (Script owner) ∷ frame ∷ below) (frame ∷ below)) begun)
    [ true ↦ (none, tends) | false ↦ tends ]

-- a call of a script begins and ends no run
called-stays : (op : WorkOp) (begun : Bool) → IsCalled op → begun_by op begun ≡ begun
called-stays (ops.Begin queue) begun called = absurd called
called-stays (ops.End queue) begun called = absurd called
called-stays op begun called = refl

-- the run of a worker after a step of its own
own-run : (s : Content) (st : State) (who : Who) (queue : ℕ) (role : Role) (next : ℕ) (stage : Stage) (op : WorkOp) (reply : WorkReply) (place k : ℕ) (begun : Bool) →
    IsWorkers s.decls queue role stage begun → slice_get (frames_attempts s (record { role = role; next = next; stage = stage } ∷ [])) k ≡ Some (steps.Work op) →
    work_reply st who op ≡ Some reply → ProgressFits s.decls (frames_progress s (record { role = role; next = next; stage = stage } ∷ []) (steps.Work op) (step_replies.Work reply place)) →
    WorksQueue s.decls queue (frames_after s (record { role = role; next = next; stage = stage } ∷ [])
    (frames_progress s (record { role = role; next = next; stage = stage } ∷ []) (steps.Work op) (step_replies.Work reply place))) (begun_by op begun)
own-run s st who queue (Script owner) next stage op reply place k begun tends is made fits = absurd tends
own-run s st who queue (Worker object) next Start op reply place k begun tends is made fits =
    let step = slice_get-one (steps.Work (ops.Begin (number_of s.decls object))) (steps.Work op) k is in
    let begins : ops.Begin (number_of s.decls object) ≡ op = cc in
    let told = begin-told st who (number_of s.decls object) reply (ap (λ (o : WorkOp). work_reply st who o) begins ∙ made) in
    let frame : Frame = record { role = Worker object; next = next; stage = Start } in
    subst (λ (r : WorkReply). ProgressFits s.decls (frames_progress s (frame ∷ []) (steps.Work op) (step_replies.Work r place)) →
    WorksQueue s.decls queue (frames_after s (frame ∷ []) (frames_progress s (frame ∷ []) (steps.Work op) (step_replies.Work r place))) (begun_by op begun)) (sym told.2)
    (by_item (slice_get (places is_item s.decls) told.0)) fits
  where
    by_item : (owner : Option ℕ) → ProgressFits s.decls (run_progress owner) →
        WorksQueue s.decls queue (frames_after s (record { role = Worker object; next = next; stage = Start } ∷ []) (run_progress owner)) (begun_by op begun)
    by_item None fits = tends.0
    by_item (Some owner) fits =
        let frame : Frame = record { role = Worker object; next = next; stage = Runs } in
        tends-settled s queue (entered (frame ∷ []) owner) (begun_by op begun) (tends-entered s.decls queue owner frame [] (begun_by op begun) fits.1 tends.0)
own-run s st who queue (Worker object) next Runs op reply place k begun tends is made fits =
    let step = slice_get-one (steps.Work (ops.End (number_of s.decls object))) (steps.Work op) k is in
    let ends : ops.End (number_of s.decls object) ≡ op = cc in
    (tends, ap (λ (o : WorkOp). begun_by o begun) (sym ends))
own-run s st who queue (Worker object) next stage op reply place k begun tends is made fits = absurd tends

-- a step at another service than the work service
abbrev pub IsElsewhere : Step → Type 0
IsElsewhere (steps.Work op) = ⊥
IsElsewhere step = Unit {0}

-- a worker asks nothing of another service by itself
none-elsewhere : (s : Content) (queue : ℕ) (role : Role) (next : ℕ) (stage : Stage) (begun : Bool) (step : Step) (k : ℕ) → IsElsewhere step →
    IsWorkers s.decls queue role stage begun → slice_get (frames_attempts s (record { role = role; next = next; stage = stage } ∷ [])) k ≡ Some step → ⊥
none-elsewhere s queue (Worker object) next Start begun step k elsewhere tends is =
    subst IsElsewhere (sym (slice_get-one (steps.Work (ops.Begin (number_of s.decls object))) step k is)) elsewhere
none-elsewhere s queue (Worker object) next Runs begun step k elsewhere tends is =
    subst IsElsewhere (sym (slice_get-one (steps.Work (ops.End (number_of s.decls object))) step k is)) elsewhere
none-elsewhere s queue role next stage begun step k elsewhere tends is = tends

-- what a call of a script asks of a service, and it makes nobody a user
abbrev IsCalledStep : Step → Type 0
IsCalledStep (steps.Work op) = IsCalled op
IsCalledStep (steps.Table table_ops.EnterUser) = ⊥
IsCalledStep step = Unit {0}

stays-supervisor : (step : Step) → IsCalledStep step → mode_after Supervisor step ≡ Supervisor
stays-supervisor (steps.Table table_ops.EnterUser) called = absurd called
stays-supervisor step called = refl

-- the steps that a call names are such
abbrev IsCalledPlan : Plan → Type 0
IsCalledPlan (One step) = IsCalledStep step
IsCalledPlan (Pair opening closing) = IsCalledStep opening
IsCalledPlan (Twice first second) = IsCalledStep first × IsCalledStep second
IsCalledPlan (Wait waiting timeout) = Unit {0}
IsCalledPlan (Poll timeout events) = Unit {0}
IsCalledPlan (Channel chan using_ timeout) = Unit {0}

plan_of-called : (decls : List Decl) (call : Call) → is_user_call call ≡ false → IsCalledPlan (plan_of decls call)
plan_of-called decls (calls.Tick ticks) other = (tt, tt)
plan_of-called decls calls.User other = absurd (cc)
plan_of-called decls call other = tt

-- a script that isn't a thread's makes nobody a user
no-user-call : (s : Content) (owner next : ℕ) (call : Call) → IsValid s → is_at is_thread s.decls owner ≡ false → slice_get (calls_of s.scripts owner) next ≡ Some call →
    is_user_call call ≡ false
no-user-call s owner next call valid none there = by (is_user_call call) refl
  where
    by : (b : Bool) → is_user_call call ≡ b → is_user_call call ≡ false
    by true makes = absurd (let is = user-owner s owner next call valid there makes in cc)
    by false other = other

one-called : (step : Step) → IsCalledStep step → All IsCalledStep (step ∷ [])
one-called step called = All-cons IsCalledStep step [] called (All-nil IsCalledStep)

open-called : (waiting : Waiting) (waits : Bool) → IsCalledStep (open_step waiting waits)
open-called (Take object) waits = tt
open-called (Put object message) waits = tt
open-called (Get object) waits = tt
open-called (Claim object) waits = tt
open-called (SubWait object) waits = tt
open-called (Offer object message) waits = tt
open-called (Enter object) waits = tt

end-called : (waiting : Waiting) (place : ℕ) → IsCalledStep (end_step waiting place)
end-called (Take object) place = tt
end-called (Put object message) place = tt
end-called (Get object) place = tt
end-called (Claim object) place = tt
end-called (SubWait object) place = tt
end-called (Offer object message) place = tt
end-called (Enter object) place = tt

quit-called : (waiting : Waiting) (place : ℕ) → IsCalledStep (quit_step waiting place)
quit-called (Take object) place = tt
quit-called (Put object message) place = tt
quit-called (Get object) place = tt
quit-called (Claim object) place = tt
quit-called (SubWait object) place = tt
quit-called (Offer object message) place = tt
quit-called (Enter object) place = tt

first-called : (waiting : Waiting) (timeout : Timeout) → IsCalledStep (first_step waiting timeout)
first-called waiting No = open-called waiting false
first-called waiting Forever = open-called waiting true
first-called waiting (Ticks ticks) = tt

wait-called : (waiting : Waiting) (timeout : Timeout) (stage : Stage) → All IsCalledStep (wait_attempts waiting timeout stage)
wait-called waiting timeout Start = one-called (first_step waiting timeout) (first-called waiting timeout)
wait-called waiting timeout (Alarmed moment) = one-called (open_step waiting true) (open-called waiting true)
wait-called waiting timeout (Waits place) = one-called (end_step waiting place) (end-called waiting place)
wait-called waiting timeout (WaitsUntil place moment) =
    All-cons IsCalledStep (end_step waiting place) (steps.Clock (clock_ops.AlarmEnd moment) ∷ []) (end-called waiting place) (one-called (steps.Clock (clock_ops.AlarmEnd moment)) tt)
wait-called waiting timeout (Quits place) = one-called (quit_step waiting place) (quit-called waiting place)
wait-called waiting timeout stage = All-nil IsCalledStep

closing-called : (closing : Closing) (since : ℕ) → IsCalledStep (closing_step closing since)
closing-called closings.Cancel since = tt
closing-called closings.Flush since = tt
closing-called closings.Drain since = tt

-- a step that an event of a poll gives isn't a worker's either
made-called : (made step : Step) → IsCalledStep made → Some made ≡ Some step → IsCalledStep step
made-called made step called is = let same : made ≡ step = cc in subst IsCalledStep same called

ask-called : (registers : Bool) (event : Event) (step : Step) → Unit {0} → ask_step registers event ≡ Some step → IsCalledStep step
ask-called registers sources.Ignore step any is = absurd (cc)
ask-called registers (sources.Sem sem) step any is = made-called (steps.Sem (ref_object sem) (sem_ops.PollArm registers)) step tt is
ask-called registers (sources.Msgq queue) step any is = made-called (steps.Msgq (ref_object queue) (msgq_ops.PollArm registers)) step tt is
ask-called registers (sources.Sig signal) step any is = made-called (steps.LookSignal (ref_object signal) false) step tt is

watch-called : (event : Event) (mark : Mark) (step : Step) → Unit {0} → watch_step event mark ≡ Some step → IsCalledStep step
watch-called (sources.Sem sem) (Armed place) step any is = made-called (steps.Sem (ref_object sem) (sem_ops.PollEnd place)) step tt is
watch-called (sources.Msgq queue) (Armed place) step any is = made-called (steps.Msgq (ref_object queue) (msgq_ops.PollEnd place)) step tt is
watch-called (sources.Sig signal) mark step any is = made-called (steps.LookSignal (ref_object signal) true) step tt is
watch-called event mark step any is = absurd (cc)

drop-called : (event : Event) (mark : Mark) (step : Step) → Unit {0} → drop_step event mark ≡ Some step → IsCalledStep step
drop-called (sources.Sem sem) (Armed place) step any is = made-called (steps.Sem (ref_object sem) (sem_ops.PollQuit place)) step tt is
drop-called (sources.Msgq queue) (Armed place) step any is = made-called (steps.Msgq (ref_object queue) (msgq_ops.PollQuit place)) step tt is
drop-called event mark step any is = absurd (cc)

each-event : (events : List Event) → All (λ event. Unit {0}) events
each-event [] = All-nil (λ event. Unit {0})
each-event (event ∷ events) = All-cons (λ event. Unit {0}) event events tt (each-event events)

poll-called : (timeout : Timeout) (events : List Event) (stage : Stage) → All IsCalledStep (poll_attempts timeout events stage)
poll-called timeout events stage =
    poll_attempts-each IsCalledStep (λ event. Unit {0}) ask-called watch-called drop-called (λ op. tt) timeout events stage (each-event events)

-- nor is what a call does with a channel
use-called : (chan : ℕ) (using_ : Using) → IsCalledStep (use_step chan using_)
use-called chan (Publish message) = tt
use-called chan Notify = tt
use-called chan Read = tt

visit-called : (chan : ℕ) (left : List ℕ) → IsCalledStep (visit_step chan left)
visit-called chan [] = tt
visit-called chan (observer ∷ left) = tt

channel-called : (chan : ℕ) (using_ : Using) (timeout : Timeout) (stage : Stage) → All IsCalledStep (channel_attempts chan using_ timeout stage)
channel-called chan using_ timeout Holds = one-called (use_step chan using_) (use-called chan using_)
channel-called chan using_ timeout (Visits left full) = one-called (visit_step chan left) (visit-called chan left)
channel-called chan using_ timeout (Reads message) = one-called (steps.Chan chan chan_ops.Free) tt
channel-called chan using_ timeout stage = wait-called (asks_for chan using_) timeout stage

-- and so are all that it attempts
attempts-called : (plan : Plan) (stage : Stage) → IsCalledPlan plan → All IsCalledStep (plan_attempts plan stage)
attempts-called (One step) Start called = one-called step called
attempts-called (Pair opening closing) Start called = one-called opening called
attempts-called (Pair opening closing) (Waits place) called = one-called (closing_step closing place) (closing-called closing place)
attempts-called (Twice first second) Start called = one-called first called.0
attempts-called (Twice first second) Halfway called = one-called second called.1
attempts-called (Wait waiting timeout) stage called = wait-called waiting timeout stage
attempts-called (Poll timeout events) stage called = poll-called timeout events stage
attempts-called (Channel chan using_ timeout) stage called = channel-called chan using_ timeout stage
attempts-called plan stage called = All-nil IsCalledStep

call-called : (decls : List Decl) (call : Option Call) (stage : Stage) (step : Step) (k : ℕ) → ((own : Call) → call ≡ Some own → is_user_call own ≡ false) →
    slice_get (call_attempts decls call stage) k ≡ Some step → IsCalledStep step
call-called decls None stage step k other is = absurd (cc)
call-called decls (Some call) stage step k other is =
    All-at IsCalledStep (plan_attempts (plan_of decls call) stage) k step (attempts-called (plan_of decls call) stage (plan_of-called decls call (other call refl))) is

-- the scripts of a worker after a step of the innermost one, which begins no run where a call asks for it
own-script : (s : Content) (queue : ℕ) (frame next : Frame) (below : List Frame) (step : Step) (reply : StepReply) (k : ℕ) (call : Option Call) (old new : Bool) →
    (IsCalledStep step → old ≡ false → new ≡ false) → IsScript s.decls frame.role → WorksQueue s.decls queue (next ∷ below) old →
    ((own : Call) → call ≡ Some own → is_user_call own ≡ false) → slice_get (call_attempts s.decls call frame.stage) k ≡ Some step →
    ProgressFits s.decls (call_progress s.decls call frame.stage step reply) →
    WorksQueue s.decls queue (frames_after s (frame ∷ next ∷ below) (call_progress s.decls call frame.stage step reply)) new
own-script s queue frame next below step reply k call old new keeps script tends other is fits = by_progress (call_progress s.decls call frame.stage step reply) fits
  where
    kept : WorksQueue s.decls queue (next ∷ below) new
    kept = tends-keep s.decls queue (next ∷ below) old new (keeps (call-called s.decls call frame.stage step k other is)) tends

    by_progress : (progress : Progress) → ProgressFits s.decls progress → WorksQueue s.decls queue (frames_after s (frame ∷ next ∷ below) progress) new
    by_progress (Goes stage) fits = (script, kept)
    by_progress (Answers word answer) fits = tends-settled s queue (record frame { next = frame.next + 1; stage = Start } ∷ next ∷ below) new (script, kept)
    by_progress (Enters owner stage) fits =
        let here : Frame = record frame { stage = stage } in
        tends-settled s queue (entered (here ∷ next ∷ below) owner) new (tends-entered s.decls queue owner here (next ∷ below) new fits.1 (script, kept))

-- the same of the open scripts and the run below
own-scripts : (s : Content) (queue : ℕ) (frame next : Frame) (below : List Frame) (step : Step) (reply : StepReply) (k : ℕ) (old new : Bool) → IsValid s →
    (IsCalledStep step → old ≡ false → new ≡ false) → WorksQueue s.decls queue (frame ∷ next ∷ below) old → slice_get (frames_attempts s (frame ∷ next ∷ below)) k ≡ Some step →
    ProgressFits s.decls (frames_progress s (frame ∷ next ∷ below) step reply) →
    WorksQueue s.decls queue (frames_after s (frame ∷ next ∷ below) (frames_progress s (frame ∷ next ∷ below) step reply)) new
own-scripts s queue frame next below step reply k old new valid keeps tends is fits = by_role frame.role frame.next frame.stage tends.0 is fits
  where
    by_role : (role : Role) (at : ℕ) (stage : Stage) → IsScript s.decls role → slice_get (frames_attempts s (record { role = role; next = at; stage = stage } ∷ next ∷ below)) k ≡ Some step →
        ProgressFits s.decls (frames_progress s (record { role = role; next = at; stage = stage } ∷ next ∷ below) step reply) →
        WorksQueue s.decls queue (frames_after s (record { role = role; next = at; stage = stage } ∷ next ∷ below)
        (frames_progress s (record { role = role; next = at; stage = stage } ∷ next ∷ below) step reply)) new
    by_role (Script owner) at stage script is fits =
        own-script s queue (record { role = Script owner; next = at; stage = stage }) next below step reply k (slice_get (calls_of s.scripts owner) at) old new keeps script tends.1
        (λ call there. no-user-call s owner at call valid script there) is fits
    by_role (Worker object) at stage script is fits = absurd script

-- a worker tends its queue after each step of its own at the work service
pub tends-own : (s : Content) (st : State) (who : Who) (queue : ℕ) (frames : List Frame) (op : WorkOp) (reply : WorkReply) (place k : ℕ) (begun : Bool) → IsValid s →
    WorksQueue s.decls queue frames begun → slice_get (frames_attempts s frames) k ≡ Some (steps.Work op) → work_reply st who op ≡ Some reply →
    ProgressFits s.decls (frames_progress s frames (steps.Work op) (step_replies.Work reply place)) →
    WorksQueue s.decls queue (frames_after s frames (frames_progress s frames (steps.Work op) (step_replies.Work reply place))) (begun_by op begun)
tends-own s st who queue [] op reply place k begun valid tends is made fits = absurd tends
tends-own s st who queue (frame ∷ []) op reply place k begun valid tends is made fits = own-run s st who queue frame.role frame.next frame.stage op reply place k begun tends is made fits
tends-own s st who queue (frame ∷ next ∷ below) op reply place k begun valid tends is made fits =
    own-scripts s queue frame next below (steps.Work op) (step_replies.Work reply place) k begun (begun_by op begun) valid
    (λ called none. called-stays op begun called ∙ none) tends is fits

-- and after each at another service
pub tends-elsewhere : (s : Content) (queue : ℕ) (frames : List Frame) (begun : Bool) (step : Step) (reply : StepReply) (k : ℕ) → IsValid s → IsElsewhere step →
    WorksQueue s.decls queue frames begun → slice_get (frames_attempts s frames) k ≡ Some step → ProgressFits s.decls (frames_progress s frames step reply) →
    WorksQueue s.decls queue (frames_after s frames (frames_progress s frames step reply)) begun
tends-elsewhere s queue [] begun step reply k valid elsewhere tends is fits = absurd tends
tends-elsewhere s queue (frame ∷ []) begun step reply k valid elsewhere tends is fits =
    absurd (none-elsewhere s queue frame.role frame.next frame.stage begun step k elsewhere tends is)
tends-elsewhere s queue (frame ∷ next ∷ below) begun step reply k valid elsewhere tends is fits =
    own-scripts s queue frame next below step reply k begun begun valid (λ called none. none) tends is fits

-- a worker stays a supervisor
own-supervises : (s : Content) (queue : ℕ) (frames : List Frame) (begun : Bool) (step : Step) (k : ℕ) → IsValid s →
    WorksQueue s.decls queue frames begun → slice_get (frames_attempts s frames) k ≡ Some step → mode_after Supervisor step ≡ Supervisor
own-supervises s queue [] begun step k valid tends is = absurd tends
own-supervises s queue (frame ∷ []) begun step k valid tends is = by_role frame.role frame.next frame.stage tends is
  where
    by_role : (role : Role) (next : ℕ) (stage : Stage) → IsWorkers s.decls queue role stage begun →
        slice_get (frames_attempts s (record { role = role; next = next; stage = stage } ∷ [])) k ≡ Some step → mode_after Supervisor step ≡ Supervisor
    by_role (Worker object) next Start tends is =
        subst (λ (made : Step). mode_after Supervisor made ≡ Supervisor) (slice_get-one (steps.Work (ops.Begin (number_of s.decls object))) step k is) refl
    by_role (Worker object) next Runs tends is =
        subst (λ (made : Step). mode_after Supervisor made ≡ Supervisor) (slice_get-one (steps.Work (ops.End (number_of s.decls object))) step k is) refl
    by_role role next stage tends is = absurd tends
own-supervises s queue (frame ∷ next ∷ below) begun step k valid tends is = by_role frame.role frame.next frame.stage tends.0 is
  where
    by_role : (role : Role) (at : ℕ) (stage : Stage) → IsScript s.decls role →
        slice_get (frames_attempts s (record { role = role; next = at; stage = stage } ∷ next ∷ below)) k ≡ Some step → mode_after Supervisor step ≡ Supervisor
    by_role (Script owner) at stage script is =
        stays-supervisor step (call-called s.decls (slice_get (calls_of s.scripts owner) at) stage step k (λ call there. no-user-call s owner at call valid script there) is)
    by_role (Worker object) at stage script is = absurd script

-- it goes on with what it has open: no call of it is checked
pub works-on : (s : Content) (queue : ℕ) (at : PlayerPlace) (step : Step) (reply : StepReply) (old new : Bool) → IsValid s → Works s.decls queue at old →
    ((k : ℕ) → slice_get (frames_attempts s at.frames) k ≡ Some step → WorksQueue s.decls queue (frames_after s at.frames (frames_progress s at.frames step reply)) new) →
    IsAhead s at step → Works s.decls queue (after s at step reply) new
works-on s queue at step reply old new valid works next ahead =
    turn (λ a. Works s.decls queue a new) s at step reply ahead
    (λ check. let none = ap (λ (mode : Mode). next_check s mode at.passed at.frames) (sym works.supervises) ∙ check.comes in absurd (cc))
    (λ own. record {
      supervises = ap (λ (mode : Mode). mode_after mode step) works.supervises ∙ own-supervises s queue at.frames old step own.index valid works.tends own.ahead;
      tends = next own.index own.ahead;
    })

-- the object of the n-th place of a kind has n before it
placed : (test : Decl → Bool) (n : ℕ) (ds : List Decl) (q o : ℕ) → slice_get (places_from n test ds) q ≡ Some o →
    (k : ℕ) × (o ≡ n + k) × (d : Decl) × (slice_get ds k ≡ Some d) × (test d ≡ true) × (count_by test (take k ds) ≡ q)
placed test n [] q o is = absurd (cc)
placed test n (x ∷ xs) q o is = by_test (test x) refl q is (placed test (n + 1) xs)
  where
    by_test : (b : Bool) → test x ≡ b → (q : ℕ) → slice_get (cond b (n ∷ places_from (n + 1) test xs) (places_from (n + 1) test xs)) q ≡ Some o →
        ((q o : ℕ) → slice_get (places_from (n + 1) test xs) q ≡ Some o → (k : ℕ) × (o ≡ (n + 1) + k) × (d : Decl) × (slice_get xs k ≡ Some d) × (test d ≡ true) × (count_by test (take k xs) ≡ q)) →
        (k : ℕ) × (o ≡ n + k) × (d : Decl) × (slice_get (x ∷ xs) k ≡ Some d) × (test d ≡ true) × (count_by test (take k (x ∷ xs)) ≡ q)
    by_test true passes zero is further = let same : n ≡ o = cc in (0, omega arith, x, refl, passes, refl)
    by_test true passes (suc q) is further =
        let more = further q o is in
        (suc more.0, omega arith, more.2, more.3, more.4, omega (arith, count_by-cons test x (take more.0 xs), ap {B = ℕ} (λ b. cond b 1 0) passes, more.5))
    by_test false passes q is further =
        let more = further q o is in
        (suc more.0, omega arith, more.2, more.3, more.4, omega (arith, count_by-cons test x (take more.0 xs), ap {B = ℕ} (λ b. cond b 1 0) passes, more.5))

behind-first : (xs ys : List ℕ) (q : ℕ) → slice_get (xs ++ ys) (length xs + q) ≡ slice_get ys q
behind-first [] ys q = let same : length {A = ℕ} [] + q ≡ q = omega arith in ap (λ (n : ℕ). slice_get ys n) same
behind-first (x ∷ xs) ys q = let same : length (x ∷ xs) + q ≡ suc (length xs + q) = omega arith in ap (λ (n : ℕ). slice_get (x ∷ (xs ++ ys)) n) same ∙ behind-first xs ys q

-- the worker of a queue starts between two runs
starting-tends : (s : Content) (number queue object : ℕ) (decl : Decl) → is_queue decl ≡ true → slice_get s.decls object ≡ Some decl → count_by is_queue (take object s.decls) ≡ queue →
    Works s.decls queue (starting s number object decl) false
starting-tends s number queue object (decls.Queue name prio on) kind is count =
    let here : number_of s.decls object ≡ queue = ap (λ (o : Option Decl). option_map_or (λ d. count_by (has_kind_of d) (take object s.decls)) o 0) is ∙ count in
    record { supervises = refl; tends = (here, refl) }
starting-tends s number queue object decl kind is count = absurd (cc)

-- and so does the player of its number
pub start-tends : (s : Content) (queue : ℕ) (at : PlayerPlace) → start_at s (length (places is_thread s.decls) + queue) ≡ Some at → Works s.decls queue at false
start-tends s queue at is =
    let number = length (places is_thread s.decls) + queue in
    let inner : ℕ → Option PlayerPlace = λ object. option_map (starting s number object) (slice_get s.decls object) in
    option_and_then_some inner (slice_get (players s.decls) number) at is (λ object found made. by_place object
    (placed is_queue 0 s.decls queue object (sym (behind-first (places is_thread s.decls) (places is_queue s.decls) queue) ∙ found)) made)
  where
    by_place : (object : ℕ) → (k : ℕ) × (object ≡ 0 + k) × (d : Decl) × (slice_get s.decls k ≡ Some d) × (is_queue d ≡ true) × (count_by is_queue (take k s.decls) ≡ queue) →
        option_map (starting s (length (places is_thread s.decls) + queue) object) (slice_get s.decls object) ≡ Some at → Works s.decls queue at false
    by_place object there made =
        let number = length (places is_thread s.decls) + queue in
        let same : there.0 ≡ object = omega (arith, there.1) in
        let declared : slice_get s.decls object ≡ Some there.2 = ap (λ (n : ℕ). slice_get s.decls n) (sym same) ∙ there.3 in
        let it : Some (starting s number object there.2) ≡ Some at = sym (ap (option_map (starting s number object)) declared) ∙ made in
        let is_it : starting s number object there.2 ≡ at = cc in
        subst (λ (a : PlayerPlace). Works s.decls queue a false) is_it
        (starting-tends s number queue object there.2 there.4 declared (ap (λ (n : ℕ). count_by is_queue (take n s.decls)) (sym same) ∙ there.5))
