use Rattle.std.proofs.Common.{◌≡◌, length}
use Rattle.zk_line.specs.Checks.{name_once}
use Rattle.zk_line.proofs.checks.name_once.Given as goal

abbrev pub invariant-loop-part : goal.invariant-loop-part
invariant-loop-part l = name_once l.initial.parts ≡ name_once l.parts

abbrev pub decreases-loop-part : goal.decreases-loop-part
decreases-loop-part l = length l.parts
