use Rattle.std.proofs.Common.{◌<◌, take, All}
use Rattle.zk_show_order.proofs.lanes.player_count.Given as goal

abbrev pub invariant-loop-line : goal.invariant-loop-line
invariant-loop-line l = All (λ line. line.player < l.count) (take l.line-index l.lines)
