use Rattle.std.proofs.Common.{◌≡◌, Some, List, length, get_or, ap, subst, ◌∙◌, arith}
use Rattle.std.specs.List.{slice_get}
use Rattle.std.proofs.lemmas.Option.{slice_get-get_or}
use Rattle.zk_worker.specs.declared.steps.Spot.{Spot}
use Rattle.zk_worker.specs.declared.steps.Spot.TheVariants as spots
use Rattle.zk_worker.specs.Follows.{StepMade, Stands}
use Rattle.zk_worker.specs.Places.{PlayerPlace}
use Rattle.zk_worker.specs.Protocol.{IsAhead}
use Rattle.zk_worker.proofs.CheckedSteps.{after-most}
use Rattle.zk_trace.specs.Shown.{trace_shown}
use Rattle.zk_failures.proofs.PlayedLogs.{led-start, led-more, led-all, astray-here}
use Rattle.zk_failures.proofs.log.astray.Goals as goal

pub loop-step-init : goal.loop-step-init
loop-step-init c = record {
  room = c.requires;
  led = λ number logged starts. led-start c.args.scenario.now c.args.trace.now number c.args.log.now c.args.player.now logged starts;
}

pub made-requires-clause-room : goal.made-requires-clause-room
made-requires-clause-room c = c.loop-step.invariant.room

pub loop-step-preserved : goal.loop-step-preserved
loop-step-preserved c =
    let s = c.args.scenario.now in
    let steps = c.items-spot-items.result.now in
    let step = c.loop-step.step in
    let spot : Spot = get_or steps step (spots.Work 0) in
    let there : slice_get steps step ≡ Some spot = slice_get-get_or steps step (spots.Work 0) c.loop-step-test.true in
    let done : Stands (trace_shown c.args.trace.now) spot (c.in-Some.attempt, c.in-Some.reply) × IsAhead s c.loop-step.player c.in-Some.attempt =
    rw c.in-Some.is at c.in_ok-attempt.ensures in
    record {
      room = ap (λ (at : PlayerPlace). at.most) c.made.ensures.next ∙ after-most s c.loop-step.player c.in-Some.attempt c.in-Some.reply ∙ c.loop-step.invariant.room;
      led = λ number logged starts.
          led-more s c.args.trace.now number c.args.log.now step c.loop-step.player c.made.new.self spot (c.in-Some.attempt, c.in-Some.reply)
          (c.loop-step.invariant.led number logged starts) (subst (λ (l : List Spot). slice_get l step ≡ Some spot) c.items-spot-items.ensures there) done.0 done.1 c.made.ensures.next;
    }

pub returns : goal.returns
returns c = λ number logged starts.
    let long = ap (λ (l : List Spot). length l) c.items-spot-items.ensures in
    let past = c.loop-step-test.false in
    led-all c.args.scenario.now c.args.trace.now number c.args.log.now c.loop-step.step c.loop-step.player (omega (arith, long, past)) (c.loop-step.invariant.led number logged starts)

pub returns-in_default : goal.returns-in_default
returns-in_default c = λ number logged starts.
    let steps = c.items-spot-items.result.now in
    let step = c.loop-step.step in
    let spot : Spot = get_or steps step (spots.Work 0) in
    let there : slice_get steps step ≡ Some spot = slice_get-get_or steps step (spots.Work 0) c.loop-step-test.true in
    let none : (made : StepMade) → Stands (trace_shown c.args.trace.now) spot made → IsAhead c.args.scenario.now c.loop-step.player made.0 → ⊥ = rw c.in_default.is at c.in_ok-attempt.ensures in
    astray-here c.args.scenario.now c.args.trace.now number c.args.log.now step c.loop-step.player spot (c.loop-step.invariant.led number logged starts)
    (subst (λ (l : List Spot). slice_get l step ≡ Some spot) c.items-spot-items.ensures there) none
