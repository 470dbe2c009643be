use Rattle.std.proofs.Common.{◌≡◌, ◌+◌, ◌≤◌, count_by, length}
use Rattle.zk_base.specs.Limits.{most_few}
use Rattle.zk_line.specs.Checks.{is_observer_slot}
use Rattle.zk_line.proofs.checks.has_many_observers.Given as goal

abbrev pub invariant-loop-part : goal.invariant-loop-part
invariant-loop-part l =
    (l.observers ≤ most_few) × (l.observers + count_by (λ part. is_observer_slot part.slot) l.parts ≡ count_by (λ part. is_observer_slot part.slot) l.initial.parts)

abbrev pub decreases-loop-part : goal.decreases-loop-part
decreases-loop-part l = length l.parts
