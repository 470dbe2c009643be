-- A log leads its player to one place, whatever steps its spots stand for.
use Rattle.std.proofs.Common.{◌≡◌, ◌⊎◌, inl, inr, ℕ, Bool, true, false, cond, Option, Some, None, option_to_list, List, [], ◌∷◌, ◌++◌, take, All, refl, sym, ap, subst, ◌∙◌}
use Rattle.std.specs.List.{slice_get, AllZip}
use Rattle.std.proofs.lemmas.List.Elements.{All-nil, All-cons, All-append}
use Rattle.std.proofs.lemmas.Option.{same_Some}
use Rattle.zk_base.proofs.Lists.{All-at}
use Rattle.zk_line.specs.Objects.{number_of}
use Rattle.zk_line.specs.declared.events.Event.{Event}
use Rattle.zk_line.specs.declared.events.Event.TheVariants as events_of
use Rattle.zk_line.specs.declared.events.TheConstants.{MOST_EVENTS}
use Rattle.zk_line.specs.declared.types.Call.{Call}
use Rattle.zk_line.specs.declared.types.Decl.{Decl}
use Rattle.zk_model_bus.specs.declared.channel.ChanOp.TheVariants as chan_ops
use Rattle.zk_model_wait.specs.declared.clock.ClockOp.TheVariants as clock_ops
use Rattle.zk_model_work.specs.declared.ops.WorkOp.TheVariants as work_ops
use Rattle.zk_scenario.specs.Content.{Content}
use Rattle.zk_scenario.specs.Players.{calls_of}
use Rattle.zk_words.specs.declared.timeout.Timeout.{Timeout}
use Rattle.zk_words.specs.declared.timeout.Timeout.TheVariants.{No, Forever, Ticks}
use Rattle.zk_worker.specs.declared.frames.Alarm.{Alarm}
use Rattle.zk_worker.specs.declared.frames.Alarm.TheVariants.{Unset, Due}
use Rattle.zk_worker.specs.declared.frames.Frame.{Frame}
use Rattle.zk_worker.specs.declared.frames.Mark.{Mark}
use Rattle.zk_worker.specs.declared.frames.Mark.TheVariants.{Armed}
use Rattle.zk_worker.specs.declared.frames.Plan.{Plan}
use Rattle.zk_worker.specs.declared.frames.Plan.TheVariants.{One, Pair, Twice, Wait, Poll, Channel}
use Rattle.zk_worker.specs.declared.frames.Role.{Role}
use Rattle.zk_worker.specs.declared.frames.Role.TheVariants.{Script, Worker}
use Rattle.zk_worker.specs.declared.frames.Stage.{Stage}
use Rattle.zk_worker.specs.declared.frames.Stage.TheVariants as stages
use Rattle.zk_worker.specs.declared.frames.Using.{Using}
use Rattle.zk_worker.specs.declared.frames.Waiting.{Waiting}
use Rattle.zk_worker.specs.declared.frames.Waiting.TheVariants as waitings
use Rattle.zk_worker.specs.declared.steps.Spot.{Spot}
use Rattle.zk_worker.specs.declared.steps.Spot.TheVariants as spots
use Rattle.zk_worker.specs.declared.steps.Step.{Step}
use Rattle.zk_worker.specs.declared.steps.Step.TheVariants as steps
use Rattle.zk_worker.specs.declared.steps.StepReply.{StepReply}
use Rattle.zk_worker.specs.declared.steps.StepReply.TheVariants as step_replies
use Rattle.zk_worker.specs.Calls.{plan_of, closing_step, plan_attempts}
use Rattle.zk_worker.specs.Follows.{Stands, IsPlayed, IsFollowing}
use Rattle.zk_worker.specs.Places.{PlayerPlace}
use Rattle.zk_worker.specs.Polls.{poll_attempts, polling, watching, watch_step, alarm_steps, asking, dropping, asks_more, is_closing, registers, fresh}
use Rattle.zk_worker.specs.Protocol.{IsAhead, after, call_attempts, frames_attempts, role_attempts, worker_attempts}
use Rattle.zk_worker.specs.Publishes.{asks_for, use_step, visit_step, channel_attempts}
use Rattle.zk_worker.specs.Shown.{Shown}
use Rattle.zk_worker.specs.Waits.{open_step, end_step, quit_step, first_step, wait_attempts}
use Rattle.zk_worker.proofs.CheckedSteps.{IsCheck, IsOwn, one-or-other}

-- The looks at signals among the next attempts of a player: all must find the signal raised, or none must.

-- where a step is such a look, it must just where this says so
abbrev Musts : Bool → Step → Type 0
Musts must (steps.LookSignal object raised) = raised ≡ must
Musts must step = Unit {0}

abbrev AreAlike : List Step → Type 0
AreAlike ahead = (must : Bool) × All (Musts must) ahead

none-alike : AreAlike []
none-alike = (false, All-nil (Musts false))

one-alike : (step : Step) → AreAlike (step ∷ [])
one-alike (steps.LookSignal object must) = (must, All-cons (Musts must) (steps.LookSignal object must) [] refl (All-nil (Musts must)))
one-alike step = (false, All-cons (Musts false) step [] tt (All-nil (Musts false)))

option-alike : (step : Option Step) → AreAlike (option_to_list step)
option-alike None = none-alike
option-alike (Some step) = one-alike step

end-other : (waiting : Waiting) (place : ℕ) → Musts false (end_step waiting place)
end-other (waitings.Take object) place = tt
end-other waiting place = tt

wait-alike : (waiting : Waiting) (timeout : Timeout) (stage : Stage) → AreAlike (wait_attempts waiting timeout stage)
wait-alike waiting timeout stages.Start = one-alike (first_step waiting timeout)
wait-alike waiting timeout (stages.Alarmed moment) = one-alike (open_step waiting true)
wait-alike waiting timeout (stages.Waits place) = one-alike (end_step waiting place)
wait-alike waiting timeout (stages.WaitsUntil place moment) = (
  false,
  All-cons (Musts false) (end_step waiting place) (steps.Clock (clock_ops.AlarmEnd moment) ∷ []) (end-other waiting place)
      (All-cons (Musts false) (steps.Clock (clock_ops.AlarmEnd moment)) [] tt (All-nil (Musts false))),
)
wait-alike waiting timeout (stages.Quits place) = one-alike (quit_step waiting place)
wait-alike waiting timeout stage = none-alike

channel-alike : (chan : ℕ) (using_ : Using) (timeout : Timeout) (stage : Stage) → AreAlike (channel_attempts chan using_ timeout stage)
channel-alike chan using_ timeout stages.Holds = one-alike (use_step chan using_)
channel-alike chan using_ timeout (stages.Visits left full) = one-alike (visit_step chan left)
channel-alike chan using_ timeout (stages.Reads message) = one-alike (steps.Chan chan chan_ops.Free)
channel-alike chan using_ timeout stage = wait-alike (asks_for chan using_) timeout stage

watch-musts : (event : Event) (mark : Mark) → All (Musts true) (option_to_list (watch_step event mark))
watch-musts (events_of.Sem sem) (Armed place) = All-cons (Musts true) _ [] tt (All-nil (Musts true))
watch-musts (events_of.Msgq queue) (Armed place) = All-cons (Musts true) _ [] tt (All-nil (Musts true))
watch-musts (events_of.Sig signal) mark = All-cons (Musts true) _ [] refl (All-nil (Musts true))
watch-musts event mark = All-nil (Musts true)

watching-musts : (events : List Event) (marks : List Mark) → All (Musts true) (watching events marks)
watching-musts (event ∷ events) (mark ∷ marks) =
    All-append (Musts true) (option_to_list (watch_step event mark)) (watching events marks) (watch-musts event mark) (watching-musts events marks)
watching-musts [] marks = All-nil (Musts true)
watching-musts (event ∷ events) [] = All-nil (Musts true)

alarm-musts : (alarm : Alarm) → All (Musts true) (alarm_steps alarm)
alarm-musts (Due moment) = All-cons (Musts true) (steps.Clock (clock_ops.AlarmEnd moment)) [] tt (All-nil (Musts true))
alarm-musts alarm = All-nil (Musts true)

polling-alike : (timeout : Timeout) (events : List Event) (alarm : Alarm) (marks : List Mark) → AreAlike (polling timeout events alarm marks)
polling-alike timeout events alarm marks = by (asks_more events marks) (is_closing alarm marks) where
  by : (asks closes : Bool) → AreAlike (cond asks (option_to_list (asking (registers timeout marks) events marks))
      (cond closes (option_to_list (dropping events marks)) (watching (take MOST_EVENTS events) marks ++ alarm_steps alarm)))
  by true closes = option-alike (asking (registers timeout marks) events marks)
  by false true = option-alike (dropping events marks)
  by false false =
      (true, All-append (Musts true) (watching (take MOST_EVENTS events) marks) (alarm_steps alarm) (watching-musts (take MOST_EVENTS events) marks) (alarm-musts alarm))

poll-alike : (timeout : Timeout) (events : List Event) (stage : Stage) → AreAlike (poll_attempts timeout events stage)
poll-alike (Ticks ticks) events stages.Start = one-alike (steps.Clock (clock_ops.Alarm ticks))
poll-alike No events stages.Start = polling-alike No events Unset fresh
poll-alike Forever events stages.Start = polling-alike Forever events Unset fresh
poll-alike timeout events (stages.Polls alarm marks) = polling-alike timeout events alarm marks
poll-alike timeout events stage = none-alike

plan-alike : (plan : Plan) (stage : Stage) → AreAlike (plan_attempts plan stage)
plan-alike (One step) stages.Start = one-alike step
plan-alike (Pair opening closing) stages.Start = one-alike opening
plan-alike (Pair opening closing) (stages.Waits place) = one-alike (closing_step closing place)
plan-alike (Twice first second) stages.Start = one-alike first
plan-alike (Twice first second) stages.Halfway = one-alike second
plan-alike (Wait waiting timeout) stage = wait-alike waiting timeout stage
plan-alike (Poll timeout events) stage = poll-alike timeout events stage
plan-alike (Channel chan using_ timeout) stage = channel-alike chan using_ timeout stage
plan-alike plan stage = none-alike

call-alike : (decls : List Decl) (call : Option Call) (stage : Stage) → AreAlike (call_attempts decls call stage)
call-alike decls None stage = none-alike
call-alike decls (Some call) stage = plan-alike (plan_of decls call) stage

worker-alike : (queue : ℕ) (stage : Stage) → AreAlike (worker_attempts queue stage)
worker-alike queue stages.Start = one-alike (steps.Work (work_ops.Begin queue))
worker-alike queue stages.Runs = one-alike (steps.Work (work_ops.End queue))
worker-alike queue stage = none-alike

frames-alike : (s : Content) (frames : List Frame) → AreAlike (frames_attempts s frames)
frames-alike s [] = none-alike
frames-alike s (frame ∷ below) = by frame.role where
  by : (role : Role) → AreAlike (role_attempts s role frame.next frame.stage)
  by (Script owner) = call-alike s.decls (slice_get (calls_of s.scripts owner) frame.next) frame.stage
  by (Worker queue) = worker-alike (number_of s.decls queue) frame.stage

own-musts : (s : Content) (at : PlayerPlace) (object : ℕ) (must : Bool) → IsAhead s at (steps.LookSignal object must) → must ≡ (frames-alike s at.frames).0
own-musts s at object must ahead = by (one-or-other s at (steps.LookSignal object must) ahead) where
  by : IsCheck s at (steps.LookSignal object must) ⊎ IsOwn s at (steps.LookSignal object must) → must ≡ (frames-alike s at.frames).0
  by (inl is) = absurd (let check = is.is_step in cc)
  by (inr is) =
      let alike = frames-alike s at.frames in
      All-at (Musts alike.0) (frames_attempts s at.frames) is.index (steps.LookSignal object must) alike.1 is.ahead

-- The place.

-- a spot stands for one step of a player at a place
step-same : (s : Content) (shown : Shown) (at : PlayerPlace) (spot : Spot) (a b : Step × StepReply) → IsAhead s at a.0 → IsAhead s at b.0 → Stands shown spot a → Stands shown spot b → a ≡ b
step-same s shown at (spots.LookItem object flags place) a b first second one two = one ∙ sym two
step-same s shown at (spots.LookSignal object seen) a b first second one two =
    let here : one.0 ≡ two.0 = own-musts s at object one.0 (subst (λ (m : Step × StepReply). IsAhead s at m.0) one.1 first)
    ∙ sym (own-musts s at object two.0 (subst (λ (m : Step × StepReply). IsAhead s at m.0) two.1 second)) in
    one.1 ∙ ap (λ (must : Bool). (steps.LookSignal object must, step_replies.Seen seen)) here ∙ sym two.1
step-same s shown at spot a b first second one two = same_Some {A = Step × StepReply} a b (sym one ∙ two)

same-end : (s : Content) (shown : Shown) (log : List Spot) (made other : List (Step × StepReply)) (at a b : PlayerPlace) → AllZip (Stands shown) log made → AllZip (Stands shown) log other →
    IsPlayed s at made a → IsPlayed s at other b → a ≡ b
same-end s shown [] [] [] at a b one two led also = sym led ∙ also
same-end s shown [] [] (n ∷ other) at a b one two led also = absurd two
same-end s shown [] (m ∷ made) other at a b one two led also = absurd one
same-end s shown (spot ∷ log) [] other at a b one two led also = absurd one
same-end s shown (spot ∷ log) (m ∷ made) [] at a b one two led also = absurd two
same-end s shown (spot ∷ log) (m ∷ made) (n ∷ other) at a b one two led also =
    let same = step-same s shown at spot m n led.0 also.0 one.0 two.0 in
    same-end s shown log made other (after s at m.0 m.1) a b one.1 two.1 led.1
    (subst (λ (x : Step × StepReply). IsPlayed s (after s at x.0 x.1) other b) (sym same) also.1)

-- two places that a player's spots lead to are one
pub one-place : (s : Content) (number : ℕ) (shown : Shown) (a b : PlayerPlace) → IsFollowing s number shown a → IsFollowing s number shown b → a.spots ≡ b.spots → a ≡ b
one-place s number shown a b one two same =
    let start = same_Some one.start two.start (sym one.starts ∙ two.starts) in
    same-end s shown a.spots one.made two.made one.start a b one.stands (subst (λ (l : List Spot). AllZip (Stands shown) l two.made) (sym same) two.stands) one.played
    (subst (λ (x : PlayerPlace). IsPlayed s x two.made b) (sym start) two.played)
