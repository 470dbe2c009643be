-- Each call in the log of a player, but those that use a channel, made the steps that its form says.
use Rattle.std.proofs.Common.{◌≡◌, ◌⊎◌, inl, inr, ℕ, Bool, true, false, Option, Some, None, List, [], ◌∷◌, ◌++◌, All, refl, sym, ap, subst}
use Rattle.std.specs.List.{slice_get, AllZip}
use Rattle.std.proofs.lemmas.List.Elements.{All-nil, All-cons, All-push, All-head, All-tail, All-weaker}
use Rattle.zk_base.proofs.Lists.{All-front, All-back, slice_get-one}
use Rattle.zk_base.proofs.WaitsOnce.{eqb-same}
use Rattle.zk_base.specs.declared.ids.Entry.{Entry}
use Rattle.zk_line.specs.Calls.{word_of}
use Rattle.zk_line.specs.Objects.{number_of}
use Rattle.zk_line.specs.declared.types.Call.{Call}
use Rattle.zk_model_wait.specs.declared.clock.ClockOp.{ClockOp}
use Rattle.zk_model_wait.specs.declared.clock.ClockReply.{ClockReply}
use Rattle.zk_model_work.specs.declared.ops.WorkOp.TheVariants as work_ops
use Rattle.zk_scenario.specs.Content.{Content}
use Rattle.zk_scenario.specs.Players.{calls_of}
use Rattle.zk_worker.specs.declared.answers.Answered.{Answered}
use Rattle.zk_worker.specs.declared.checks.Check.{Check}
use Rattle.zk_worker.specs.declared.frames.Frame.{Frame}
use Rattle.zk_worker.specs.declared.frames.Role.{Role}
use Rattle.zk_worker.specs.declared.frames.Role.TheVariants.{Script, Worker}
use Rattle.zk_worker.specs.declared.frames.Stage.{Stage}
use Rattle.zk_worker.specs.declared.frames.Stage.TheVariants as stages
use Rattle.zk_worker.specs.declared.steps.Step.{Step}
use Rattle.zk_worker.specs.declared.steps.Spot.{Spot}
use Rattle.zk_worker.specs.declared.steps.Spot.TheVariants as spots
use Rattle.zk_worker.specs.declared.steps.Step.TheVariants as steps
use Rattle.zk_worker.specs.declared.steps.StepReply.TheVariants as step_replies
use Rattle.zk_player_laws.specs.CallLaws.{is_in_use, IsStepOf, IsOfIts, IsOfCall, AreOfCalls, IsCallOf, IsUseOf, EachCallIsMade}
use Rattle.zk_worker.specs.Calls.{plan_of, plan_attempts}
use Rattle.zk_player_laws.specs.CheckLaws.{is_check}
use Rattle.zk_worker.specs.Checks.{is_oops, check_step, role_check, top_check}
use Rattle.zk_worker.specs.Follows.{StepMade, Stands, IsPlayed}
use Rattle.zk_worker.specs.Places.{PlayerPlace}
use Rattle.zk_worker.specs.Protocol.{IsAhead, after, call_attempts, role_attempts, frames_attempts, worker_attempts}
use Rattle.zk_worker.specs.Shown.{Shown}
use Rattle.zk_player_laws.specs.StackLogs.{ShowsLegalClock}
use Rattle.zk_worker.proofs.CheckedSteps.{IsCheck, IsOwn, one-or-other, check-of-top}
use Rattle.zk_player_laws.proofs.CallsMade.{IsFit, made-so, may-come, poll-plan}
use Rattle.zk_player_laws.proofs.CallsPlayed.{IsPlayOf, PlaysOn, AreOpen, Holds, call-uses, holds-step, holds-start, each_call_is_played}
use Rattle.zk_player_laws.proofs.OtherCalls.{is_with_channel}
use Rattle.zk_player_laws.proofs.LogsPlayed.{clock-tells}
use Rattle.zk_worker.proofs.ShownSteps.{made-of}

-- what stands at a spot is replied by the service of its step
stands-fit : (shown : Shown) → ShowsLegalClock shown → (spot : Spot) (made : StepMade) → Stands shown spot made → IsFit made
stands-fit shown timed (spots.Work place) made stands = let from = made-of _ _ made stands in subst IsFit from.2 refl
stands-fit shown timed (spots.Table place) made stands = let from = made-of _ _ made stands in subst IsFit from.2 refl
stands-fit shown timed (spots.Clock place) made stands =
    let from = made-of (λ (e : Entry ClockOp ClockReply). (steps.Clock e.op, step_replies.Clock e.reply place)) (slice_get shown.clock place) made stands in
    subst IsFit from.2 (clock-tells shown.clock place from.0 timed.0 from.1)
stands-fit shown timed (spots.Sem object place) made stands = let from = made-of _ _ made stands in subst IsFit from.2 (eqb-same object)
stands-fit shown timed (spots.Msgq object place) made stands = let from = made-of _ _ made stands in subst IsFit from.2 (eqb-same object)
stands-fit shown timed (spots.Signal object place) made stands = let from = made-of _ _ made stands in subst IsFit from.2 (eqb-same object)
stands-fit shown timed (spots.Chan object place) made stands = let from = made-of _ _ made stands in subst IsFit from.2 (eqb-same object)
stands-fit shown timed (spots.Obs object place) made stands = let from = made-of _ _ made stands in subst IsFit from.2 (eqb-same object)
stands-fit shown timed (spots.LookItem object flags at) made stands = subst IsFit (sym stands) refl
stands-fit shown timed (spots.LookSignal object seen) made stands = subst IsFit (sym stands.1) refl

pub all-fit : (shown : Shown) → ShowsLegalClock shown → (log : List Spot) (made : List StepMade) → AllZip (Stands shown) log made → All IsFit made
all-fit shown timed [] [] stand = All-nil IsFit
all-fit shown timed [] (m ∷ made) stand = absurd stand
all-fit shown timed (spot ∷ log) [] stand = absurd stand
all-fit shown timed (spot ∷ log) (m ∷ made) stand = All-cons IsFit m made (stands-fit shown timed spot m stand.0) (all-fit shown timed log made stand.1)

call-of : (s : Content) (number : ℕ) (made : List StepMade) (a : Answered) → All IsFit made → IsPlayOf s number made a → IsCallOf s number made a
call-of s number made a fit of = record {
  owner = of.owner;
  next = of.next;
  call = of.call;
  below = of.below;
  is_word = of.is_word;
  before = of.before;
  play = of.play;
  rest = of.rest;
  whole = of.whole;
  last = of.last;
  begins = of.begins;
  made_so = made-so (word_of of.call) (plan_of s.decls of.call) of.play a.answer of.done
      (All-front IsFit of.play of.rest (All-back IsFit of.before (of.play ++ of.rest) (subst (All IsFit) of.whole fit)));
}

-- Each step.

-- the attempts of a worker begin and end runs
worker-step : (queue : ℕ) (stage : Stage) (index : ℕ) (step : Step) → slice_get (worker_attempts queue stage) index ≡ Some step →
    (step ≡ steps.Work (work_ops.Begin queue)) ⊎ (step ≡ steps.Work (work_ops.End queue))
worker-step queue stages.Start index step is = inl (sym (slice_get-one (steps.Work (work_ops.Begin queue)) step index is))
worker-step queue stages.Runs index step is = inr (sym (slice_get-one (steps.Work (work_ops.End queue)) step index is))
worker-step queue stage index step is = absurd (cc)

module _ (s : Content) (number : ℕ) (front : List StepMade) (fit : All IsFit front) where
  -- an attempt of a script is a step of its next call
  script-step : (below : List Frame) (owner next : ℕ) (stage : Stage) (index : ℕ) (step : Step) → PlaysOn s number front below (Script owner) next stage →
      slice_get (role_attempts s (Script owner) next stage) index ≡ Some step →
      (call : Call) × (slice_get (calls_of s.scripts owner) next ≡ Some call) × (is_in_use (word_of call) step ≡ false → IsStepOf s number front owner next call below step)
  script-step below owner next stage index step plays ahead = by (slice_get (calls_of s.scripts owner) next) refl ahead where
    by : (o : Option Call) → slice_get (calls_of s.scripts owner) next ≡ o → slice_get (call_attempts s.decls o stage) index ≡ Some step →
        (call : Call) × (slice_get (calls_of s.scripts owner) next ≡ Some call) × (is_in_use (word_of call) step ≡ false → IsStepOf s number front owner next call below step)
    by None there ahead = absurd (cc)
    by (Some call) there ahead = (call, there, λ other. at call there ahead other (is_with_channel stage) refl) where
      at : (call : Call) → slice_get (calls_of s.scripts owner) next ≡ Some call → slice_get (plan_attempts (plan_of s.decls call) stage) index ≡ Some step → is_in_use (word_of call) step ≡ false →
          (b : Bool) → is_with_channel stage ≡ b → IsStepOf s number front owner next call below step
      at call there ahead other true with = absurd (let uses = call-uses s.decls call stage index step with ahead in cc)
      at call there ahead other false asks =
          let was = plays call there asks in record {
            before = was.before;
            play = was.play;
            whole = was.whole;
            begins = was.begins;
            may = may-come (word_of call) (plan_of s.decls call) was.play stage index step (poll-plan s.decls call) was.led asks ahead (All-back IsFit was.before was.play (subst (All IsFit) was.whole fit));
          }

  own-step : (frames : List Frame) (index : ℕ) (step : Step) → AreOpen s number front frames → slice_get (frames_attempts s frames) index ≡ Some step → IsOfCall s number front frames step
  own-step [] index step are ahead = absurd (cc)
  own-step (frame ∷ below) index step are ahead = by frame.role are.0 ahead where
    by : (role : Role) → PlaysOn s number front below role frame.next frame.stage → slice_get (role_attempts s role frame.next frame.stage) index ≡ Some step →
        IsOfIts s number front role frame.next below step
    by (Worker queue) plays ahead = worker-step (number_of s.decls queue) frame.stage index step ahead
    by (Script owner) plays ahead = λ other. script-step below owner frame.next frame.stage index step plays ahead

  -- only a script makes checks
  check-step : (passed : ℕ) (frames : List Frame) (check : Check) (step : Step) → top_check s passed frames ≡ Some check → check_step check ≡ step → IsOfCall s number front frames step
  check-step passed [] check step is makes = absurd (cc)
  check-step passed (frame ∷ below) check step is makes = by frame.role is where
    by : (role : Role) → role_check s passed role frame.next frame.stage ≡ Some check → IsOfIts s number front role frame.next below step
    by (Worker queue) is = absurd (cc)
    by (Script owner) is = λ isnt. absurd (let checks = ap is_check makes in cc)

  step-of : (at : PlayerPlace) (step : Step) → Holds s number front at → IsAhead s at step → IsOfCall s number front at.frames step
  step-of at step holds ahead = by (one-or-other s at step ahead) where
    by : IsCheck s at step ⊎ IsOwn s at step → IsOfCall s number front at.frames step
    by (inl is) = check-step at.passed at.frames is.check step (check-of-top s at.mode at.passed at.frames is.check is.comes) is.is_step
    by (inr is) = own-step at.frames is.index step holds.frames is.ahead

are-of-calls : (s : Content) (number : ℕ) (front made : List StepMade) (at end : PlayerPlace) → Holds s number front at → IsPlayed s at made end → All IsFit front → All IsFit made → AreOfCalls s number front at made
are-of-calls s number front [] at end holds led first fit = tt
are-of-calls s number front (m ∷ more) at end holds led first fit = (
  step-of s number front first at m.0 holds led.0,
  are-of-calls s number (front ++ m ∷ []) more (after s at m.0 m.1) end (holds-step s number front m at holds led.0) led.1
      (All-push IsFit front m first (All-head IsFit m more fit)) (All-tail IsFit m more fit),
)

-- Each player.

either-of : (s : Content) (number : ℕ) (made : List StepMade) (a : Answered) → All IsFit made → IsPlayOf s number made a ⊎ IsUseOf made a → IsCallOf s number made a ⊎ IsUseOf made a
either-of s number made a fit (inl of) = inl (call-of s number made a fit of)
either-of s number made a fit (inr of) = inr of

pub each_call_is_made : EachCallIsMade
each_call_is_made s number shown at is timed =
    let fit = all-fit shown timed at.spots is.made is.stands in (
      are-of-calls s number [] is.made is.start at (holds-start s number is.start is.starts) is.played (All-nil IsFit) fit,
      All-weaker (λ (a : Answered). is_oops a.answer ≡ false → IsPlayOf s number is.made a ⊎ IsUseOf is.made a)
          (λ (a : Answered). is_oops a.answer ≡ false → IsCallOf s number is.made a ⊎ IsUseOf is.made a)
          (λ a played passed. either-of s number is.made a fit (played passed)) at.answers
          (each_call_is_played s number at is.start is.made is.starts is.played),
    )
