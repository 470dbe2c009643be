use Rattle.std.proofs.Common.{◌≡◌, length}
use Rattle.zk_trace.proofs.steps_read.counts_of.Given as goal

abbrev pub invariant-loop-line : goal.invariant-loop-line
invariant-loop-line l = length l.counts.items ≡ l.players
