use Rattle.std.proofs.Common.{Bool, subst}
use Rattle.std.specs.Result.{OnOk}
use Rattle.zk_show_chart.specs.Bars.{Steps}
use Rattle.zk_show_chart.proofs.lane.Lane.step.Goals as goal

pub returns : goal.returns
returns c =
    subst (λ (begins : Bool). OnOk c.mark.result (Steps c.args.stood.player c.args.row begins c.args.bars.now.items c.mark.new.bars.items)) c.polled-mark.ensures
    c.mark.ensures
