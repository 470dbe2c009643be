use Rattle.std.proofs.Common.{length}
use Rattle.zk_show_why.proofs.mistakes.block_at.Given as goal

abbrev pub decreases-loop-piece : goal.decreases-loop-piece
decreases-loop-piece l = length l.lines
