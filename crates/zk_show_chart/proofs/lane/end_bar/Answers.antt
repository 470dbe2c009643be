use Rattle.std.proofs.Common.{◌<◌, length, arith}
use Rattle.zk_show_chart.proofs.BarSteps.{one_end}
use Rattle.zk_show_chart.proofs.lane.end_bar.Goals as goal

pub returns-then-index-player : goal.returns-then-index-player
returns-then-index-player c =
    let bars = c.args.bars.now in
    let within : c.in-Some.place < length bars.items = omega (arith, bars.ok.0) in
    one_end c.args.player c.args.row c.in-Some.place bars.items c.index_mut.result.now c.index.result.now within c.index_mut.ensures.value
    c.index.ensures c.if-index-player.true
