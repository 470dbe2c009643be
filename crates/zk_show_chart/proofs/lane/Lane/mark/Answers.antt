use Rattle.zk_show_chart.proofs.BarSteps.{ends_step}
use Rattle.zk_show_chart.proofs.lane.Lane.mark.Goals as goal

pub returns-in-Over : goal.returns-in-Over
returns-in-Over c = rw c.in-Over.is (ends_step c.args.player c.args.row c.args.bars.now.items c.over.new.bars.items c.over.ensures)
