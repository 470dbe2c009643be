use Rattle.std.proofs.Common.{length}
use Rattle.zk_line.proofs.SaidWords.{AreSaidTo}
use Rattle.zk_line.proofs.right.say_events.Given as goal

abbrev pub invariant-loop-word : goal.invariant-loop-word
invariant-loop-word l = AreSaidTo l.free l.objects l.initial.words l.initial.args l.words l.args l.asks

abbrev pub decreases-loop-word : goal.decreases-loop-word
decreases-loop-word l = length l.words
