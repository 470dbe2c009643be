use Rattle.std.proofs.Common.{sym, ◌∙◌}
use Rattle.std.proofs.lemmas.Bool.{true≢false}
use Rattle.zk_worker.specs.declared.steps.Spot.TheVariants as spots
use Rattle.zk_trace.specs.declared.stood.Stood.{Stood}
use Rattle.zk_failures.proofs.LooksTold.{held-more, held-all, held-not, some-told, some-not}
use Rattle.zk_failures.proofs.looks.first_unheld.Goals as goal
use Rattle.zk_failures.proofs.looks.first_unheld.Goals.{then-eq-via-then-eq, then-eq-via-else-eq+then-not-is_fit}

pub returns-then-eq : goal.returns-then-eq
returns-then-eq c =
    let none : Stood = record { player = 0; step = 0; spot = spots.Work 0 } in
    held-not c.args.signals.now c.args.orders.now c.args.missed c.args.rows.now c.loop-place.place c.loop-place.invariant none c.loop-place-test.true
    (λ held. elim c.then-eq.branch [
      | then-eq-via-then-eq w ↦ held.other (some-told c.args.missed c.loop-place.place c.eq.result c.eq.ensures w.if-eq.true)
      | then-eq-via-else-eq+then-not-is_fit w ↦ true≢false (sym (w.is_fit.ensures.1 held.fit) ∙ w.if-not-is_fit.true)
    ])

pub loop-place-preserved : goal.loop-place-preserved
loop-place-preserved c =
    let none : Stood = record { player = 0; step = 0; spot = spots.Work 0 } in
    held-more c.args.signals.now c.args.orders.now c.args.missed c.args.rows.now c.loop-place.place c.loop-place.invariant none c.loop-place-test.true
    (record { other = some-not c.args.missed c.loop-place.place c.eq.result c.eq.ensures c.if-eq.false; fit = c.is_fit.ensures.0 c.if-not-is_fit.false })

pub returns : goal.returns
returns c = held-all c.args.signals.now c.args.orders.now c.args.missed c.args.rows.now c.loop-place.place c.loop-place.invariant c.loop-place-test.false
