use Rattle.std.proofs.Common.{length}
use Rattle.zk_show_why.proofs.story.put_saying.Given as goal

abbrev pub decreases-loop-piece : goal.decreases-loop-piece
decreases-loop-piece l = length l.template
