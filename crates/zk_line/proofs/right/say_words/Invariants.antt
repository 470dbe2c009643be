use Rattle.std.proofs.Common.{length}
use Rattle.zk_line.proofs.SaidWords.{IsSaidTo}
use Rattle.zk_line.proofs.right.say_words.Given as goal

abbrev pub invariant-loop-slots : goal.invariant-loop-slots
invariant-loop-slots l = IsSaidTo l.free l.objects l.row.rest l.row.slots l.initial.words l.initial.args l.slots l.words l.args

abbrev pub decreases-loop-slots : goal.decreases-loop-slots
decreases-loop-slots l = length l.slots
