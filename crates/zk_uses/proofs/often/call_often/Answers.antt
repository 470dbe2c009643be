use Rattle.std.proofs.Common.{ℕ, ◌+◌, is_err, refl, ap, subst, ◌∙◌, arith}
use Rattle.zk_base.specs.History.{IsAbove}
use Rattle.zk_turn.specs.Passes.{given_to, pass_mine, pass_seen}
use Rattle.zk_turn.proofs.Calls.{entries_made-few}
use Rattle.zk_uses.proofs.Called.{HaveLed, led-on, called-all, called-some}
use Rattle.zk_uses.proofs.often.call_often.Goals as goal

pub loop-step-preserved : goal.loop-step-preserved
loop-step-preserved g c =
    let before = c.loop-step.invariant in
    let called = c.call-next.ensures in
    let room = called.room in
    let some = before.4 in
    let holds = called.holds in
    let more = before.6 in
    let few = entries_made-few c.call-next.result.1 in
    let fine = ap is_err c.in-Ok.is in (
      called.own,
      called.players ∙ before.1,
      called.who ∙ before.2,
      subst (λ w. IsAbove (pass_mine c.call-next.result.0) w.number (c.loop-step.step + 1)) before.2 called.later,
      omega arith,
      led-on g.S.Service.machine _ c.args.caller.who (λ step. c.args.op) c.loop-step.step _ c.args.op c.call-next.result.1 _ _ before.2 refl fine before.5 called.called,
      omega arith,
    )

pub returns-in-Err-clause-called : goal.returns-in-Err-clause-called
returns-in-Err-clause-called g c =
    let before = c.loop-step.invariant in
    called-some g.S.Service.machine _ c.args.caller.who (λ step. c.args.op) c.args.times c.loop-step.step _ c.args.op c.call-next.result.1 _ _ _ before.2 (ap is_err c.in-Err.is) before.5
    c.call-next.ensures.called (omega arith)

pub returns-clause-called : goal.returns-clause-called
returns-clause-called g c =
    let m = g.S.Service.machine in
    let start = g.S.Service.start (given_to c.args.cell.now) in
    let end = c.loop-step.auto.step-end in
    let led = subst (λ (n : ℕ). HaveLed m start c.args.caller.who (λ step. c.args.op) n (pass_seen c.loop-step.pass)) (omega (arith, end)) c.loop-step.invariant.5 in
    called-all m start c.args.caller.who (λ step. c.args.op) c.args.times _ (pass_seen c.loop-step.pass) led refl
