use Rattle.std.proofs.Common.{length}
use Rattle.zk_show_why.proofs.surface.space_finding.Given as goal

abbrev pub decreases-loop-word : goal.decreases-loop-word
decreases-loop-word l = length l.words.words
