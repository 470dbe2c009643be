use Rattle.std.proofs.Common.{arith, sym, ◌∙◌}
use Rattle.std.proofs.lemmas.Bool.{false≢true}
use Rattle.zk_worker.specs.declared.steps.Step.{Step}
use Rattle.zk_worker.specs.Protocol.{attempts}
use Rattle.zk_worker.proofs.Limits.{attempts-few}
use Rattle.zk_failures.specs.Found.{IsFor}
use Rattle.zk_failures.proofs.FoundSteps.{none-more, none-left, none-past}
use Rattle.zk_failures.proofs.log.attempt_for.Goals as goal

pub returns-in_default : goal.returns-in_default
returns-in_default c =
    none-past (λ (x : Step). IsFor x c.args.step.now) (attempts c.args.scenario.now c.args.player.now) c.loop-index.index c.loop-index.invariant
    (sym c.ahead.ensures ∙ c.in_default.is)

pub loop-index-preserved : goal.loop-index-preserved
loop-index-preserved c =
    none-more (λ (x : Step). IsFor x c.args.step.now) (attempts c.args.scenario.now c.args.player.now) c.loop-index.index c.loop-index.invariant
    c.in-Some.attempt (sym c.ahead.ensures ∙ c.in-Some.is) (λ is. false≢true (sym c.if-is_for.false ∙ c.is_for.ensures.1 is))

pub returns : goal.returns
returns c =
    let few = attempts-few c.args.scenario.now c.args.player.now in
    let past = c.loop-index-test.false in
    none-left (λ (x : Step). IsFor x c.args.step.now) (attempts c.args.scenario.now c.args.player.now) c.loop-index.index c.loop-index.invariant
    (omega (arith, few, past))
