use Rattle.std.proofs.Common.{false}
use Rattle.std.proofs.lemmas.Result.{on_ok_weaker}
use Rattle.zk_show_chart.proofs.BarSteps.{ends_step, ends_then}
use Rattle.zk_show_chart.proofs.lane.Lane.visit.Goals as goal

pub returns-then-runs : goal.returns-then-runs
returns-then-runs c =
    let a = c.args in
    on_ok_weaker c.run_script.result
    (λ done. ends_then a.player a.row false a.bars.now.items c.end_bar.new.bars.items c.run_script.new.bars.items c.end_bar.ensures done)
    c.run_script.ensures

pub returns : goal.returns
returns c = ends_step c.args.player c.args.row c.args.bars.now.items c.end_bar.new.bars.items c.end_bar.ensures
