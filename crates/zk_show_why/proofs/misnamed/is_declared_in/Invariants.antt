use Rattle.std.proofs.Common.{length}
use Rattle.zk_show_why.proofs.misnamed.is_declared_in.Given as goal

abbrev pub decreases-loop-line : goal.decreases-loop-line
decreases-loop-line l = length l.lines
