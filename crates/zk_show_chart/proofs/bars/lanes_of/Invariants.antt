use Rattle.std.proofs.Common.{◌≡◌, vec_len}
use Rattle.zk_show_chart.proofs.bars.lanes_of.Given as goal

abbrev pub invariant-loop-player : goal.invariant-loop-player
invariant-loop-player l = vec_len l.lanes ≡ l.player
