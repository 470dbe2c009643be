use Rattle.std.proofs.Common.{◌≡◌, length}
use Rattle.zk_line.specs.Checks.{names_observer}
use Rattle.zk_line.proofs.checks.names_observer.Given as goal

abbrev pub invariant-loop-part : goal.invariant-loop-part
invariant-loop-part l = names_observer l.name l.initial.parts ≡ names_observer l.name l.parts

abbrev pub decreases-loop-part : goal.decreases-loop-part
decreases-loop-part l = length l.parts
