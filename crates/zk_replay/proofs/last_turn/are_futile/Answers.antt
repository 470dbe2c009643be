use Rattle.std.proofs.Common.{List, length, ◌≤◌, refl, subst, arith}
use Rattle.std.proofs.lemmas.Option.{slice_get_read}
use Rattle.std.proofs.lemmas.List.{take_all}
use Rattle.zk_replay.specs.declared.last_turn.Asked.{Asked}
use Rattle.zk_replay.specs.LastTurns.{IsFutile, AreFutile}
use Rattle.zk_replay.proofs.InVain.{all-one_more}
use Rattle.zk_replay.proofs.last_turn.are_futile.Goals as goal

pub loop-step-preserved : goal.loop-step-preserved
loop-step-preserved g c =
    let P : Asked → Type 0 = IsFutile (g.V.Services.machines c.args.services.now) (g.V.Services.shown c.args.services.now) c.args.who in
    all-one_more P c.args.asked.now c.loop-step.step-index c.step-item.result
    (slice_get_read c.args.asked.now (length c.args.asked.now) c.loop-step.step-index c.step-item.result refl c.loop-step-test.true c.step-item.is)
    c.loop-step.invariant (c.is_futile.ensures c.if-not-is_futile.false)

pub returns : goal.returns
returns g c = λ yes.
    let m = g.V.Services.machines c.args.services.now in
    let shown = g.V.Services.shown c.args.services.now in
    let all : length c.args.asked.now ≤ c.loop-step.step-index = omega (arith, c.loop-step-test.false) in
    subst (λ (l : List Asked). AreFutile m shown c.args.who l) (take_all c.loop-step.step-index c.args.asked.now all) c.loop-step.invariant
