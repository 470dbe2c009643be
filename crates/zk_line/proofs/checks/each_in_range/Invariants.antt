use Rattle.std.proofs.Common.{◌≡◌, length}
use Rattle.zk_line.specs.Checks.{each_in_range}
use Rattle.zk_line.proofs.checks.each_in_range.Given as goal

abbrev pub invariant-loop-part : goal.invariant-loop-part
invariant-loop-part l = each_in_range l.size l.initial.parts ≡ each_in_range l.size l.parts

abbrev pub decreases-loop-part : goal.decreases-loop-part
decreases-loop-part l = length l.parts
