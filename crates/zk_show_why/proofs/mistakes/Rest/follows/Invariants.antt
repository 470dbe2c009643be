use Rattle.std.proofs.Common.{length}
use Rattle.zk_show_why.proofs.mistakes.Rest.follows.Given as goal

abbrev pub decreases-loop-word : goal.decreases-loop-word
decreases-loop-word l = length l.words
