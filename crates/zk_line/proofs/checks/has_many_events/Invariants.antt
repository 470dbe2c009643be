use Rattle.std.proofs.Common.{◌≡◌, ◌+◌, ◌≤◌, count_by, length}
use Rattle.zk_line.specs.declared.events.TheConstants.{MOST_EVENTS}
use Rattle.zk_line.specs.Checks.{is_event_slot}
use Rattle.zk_line.proofs.checks.has_many_events.Given as goal

abbrev pub invariant-loop-part : goal.invariant-loop-part
invariant-loop-part l =
    (l.events ≤ MOST_EVENTS) × (l.events + count_by (λ part. is_event_slot part.slot) l.parts ≡ count_by (λ part. is_event_slot part.slot) l.initial.parts)

abbrev pub decreases-loop-part : goal.decreases-loop-part
decreases-loop-part l = length l.parts
