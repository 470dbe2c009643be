use Rattle.std.proofs.Common.{length}
use Rattle.zk_show_why.proofs.spelling.behind_head.Given as goal

abbrev pub decreases-loop-slots : goal.decreases-loop-slots
decreases-loop-slots l = length l.slots
