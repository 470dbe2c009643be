use Rattle.std.proofs.Common.{◌≤◌}
use Rattle.zk_show_svg.proofs.lanes.longest_name.Given as goal

abbrev pub invariant-loop-player : goal.invariant-loop-player
invariant-loop-player l = l.longest ≤ 16
