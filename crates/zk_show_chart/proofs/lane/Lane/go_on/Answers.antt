use Rattle.zk_show_chart.proofs.BarSteps.{ends_step}
use Rattle.zk_show_chart.proofs.lane.Lane.go_on.Goals as goal

pub returns-in-End : goal.returns-in-End
returns-in-End c = rw c.in-End.is (ends_step c.args.player c.args.row c.args.bars.now.items c.end.new.bars.items c.end.ensures)

pub returns-in-Free : goal.returns-in-Free
returns-in-Free c = rw c.in-Free.is (ends_step c.args.player c.args.row c.args.bars.now.items c.free.new.bars.items c.free.ensures)
