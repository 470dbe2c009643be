use Rattle.std.proofs.Common.{length}
use Rattle.zk_line.proofs.ReadTo.{IsReadTo}
use Rattle.zk_line.proofs.weights.judge_words.Given as goal

abbrev pub invariant-loop-part : goal.invariant-loop-part
invariant-loop-part l = IsReadTo l.free l.objects l.parts l.args l.left

abbrev pub decreases-loop-part : goal.decreases-loop-part
decreases-loop-part l = length l.left
