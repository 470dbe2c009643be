use Rattle.std.proofs.Common.{◌-◌}
use Rattle.zk_base.specs.Limits.{most_players}
use Rattle.zk_replay.proofs.sleepers.is_nobody.Given as goal

abbrev pub decreases-loop-number : goal.decreases-loop-number
decreases-loop-number l = most_players - l.number
