use Rattle.std.proofs.Common.{◌≡◌, ◌++◌, length}
use Rattle.zk_trace.specs.WholeRead.{logs_by}
use Rattle.zk_trace.proofs.logs_read.logs_by.Given as goal

abbrev pub invariant-loop-spots : goal.invariant-loop-spots
invariant-loop-spots l = l.logs.items ++ logs_by l.steps.items l.players.items ≡ logs_by l.fn.steps.items l.fn.players

abbrev pub decreases-loop-spots : goal.decreases-loop-spots
decreases-loop-spots l = length l.steps.items
