use Rattle.std.proofs.Common.{◌≡◌, map}
use Rattle.zk_trace.specs.Stood.{sorted_spots}
use Rattle.zk_trace.proofs.steps_read.sorted_steps.Given as goal

abbrev pub invariant-loop-list : goal.invariant-loop-list
invariant-loop-list l = l.steps.items ≡ map sorted_spots l.yielded
