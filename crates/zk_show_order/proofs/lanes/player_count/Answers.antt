use Rattle.zk_worker.specs.declared.steps.Spot.TheVariants.{Work}
use Rattle.zk_trace.specs.declared.stood.Stood.{Stood}
use Rattle.zk_show_order.proofs.Drawn.{among-more, among-all}
use Rattle.zk_show_order.proofs.lanes.player_count.Goals as goal

pub loop-line-preserved : goal.loop-line-preserved
loop-line-preserved c =
    let none : Stood = record { player = 0; step = 0; spot = Work 0 } in
    among-more (λ (line : Stood). line.player) c.args.lines.now c.loop-line.line-index c.loop-line.count c.max-count.result none
    c.loop-line-test.true c.loop-line.invariant c.max-count.ensures

pub returns : goal.returns
returns c =
    among-all (λ (line : Stood). line.player) c.args.lines.now c.loop-line.line-index c.loop-line.count c.loop-line-test.false
    c.loop-line.invariant
