use Rattle.std.proofs.Common.{length}
use Rattle.zk_trace.proofs.Parting.{ArePassed}
use Rattle.zk_trace.proofs.split.split_text.Given as goal

abbrev pub invariant-loop-line : goal.invariant-loop-line
invariant-loop-line l = ArePassed l.text l.rest

abbrev pub decreases-loop-line : goal.decreases-loop-line
decreases-loop-line l = length l.rest
