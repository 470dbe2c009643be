use Rattle.std.proofs.Common.{List, subst, sym}
use Rattle.zk_show_chart.specs.declared.chart.Bar.{Bar}
use Rattle.zk_show_chart.specs.Bars.{Steps}
use Rattle.zk_show_chart.specs.Marks.{is_run}
use Rattle.zk_show_chart.proofs.BarSteps.{one_step}
use Rattle.zk_show_chart.proofs.lane.begin_bar.Goals as goal

pub returns : goal.returns
returns c =
    let a = c.args in
    subst (λ (bars : List Bar). Steps a.player a.row (is_run a.kind) a.bars.now.items bars) (sym c.in_ok-push.ensures.items)
    (one_step a.player a.row a.depth a.kind a.bars.now.items)
