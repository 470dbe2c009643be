use Rattle.std.proofs.Common.{length}
use Rattle.zk_show_why.proofs.limits.behind_most.Given as goal

abbrev pub decreases-loop-part : goal.decreases-loop-part
decreases-loop-part l = length l.left.parts
