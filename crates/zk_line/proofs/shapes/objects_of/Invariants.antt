use Rattle.std.proofs.Common.{◌≡◌, ◌+◌, ◌++◌, length, take}
use Rattle.std.specs.Prelude.{option_map}
use Rattle.zk_base.specs.Limits.{most_few}
use Rattle.zk_line.specs.Shapes.{all_objects}
use Rattle.zk_line.proofs.shapes.objects_of.Given as goal

abbrev pub invariant-loop-left : goal.invariant-loop-left
invariant-loop-left l =
    (length l.objects ≡ most_few) × (l.len + length l.left ≡ length l.args) × (option_map (λ more. take l.len l.objects ++ more) (all_objects l.left) ≡ all_objects l.args)

abbrev pub decreases-loop-left : goal.decreases-loop-left
decreases-loop-left l = length l.left
