use Rattle.std.proofs.Common.{◌≡◌, ◌+◌, ◌++◌, length, take}
use Rattle.std.specs.Prelude.{option_map}
use Rattle.zk_line.specs.declared.events.TheConstants.{MOST_EVENTS}
use Rattle.zk_line.specs.Shapes.{all_events}
use Rattle.zk_line.proofs.shapes.events_of.Given as goal

abbrev pub invariant-loop-left : goal.invariant-loop-left
invariant-loop-left l =
    (length l.events ≡ MOST_EVENTS) × (l.len + length l.left ≡ length l.args) × (option_map (λ more. take l.len l.events ++ more) (all_events l.left) ≡ all_events l.args)

abbrev pub decreases-loop-left : goal.decreases-loop-left
decreases-loop-left l = length l.left
