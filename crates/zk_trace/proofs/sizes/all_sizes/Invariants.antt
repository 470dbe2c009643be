use Rattle.std.proofs.Common.{take, All}
use Rattle.zk_trace.proofs.sizes.all_sizes.Given as goal

abbrev pub invariant-loop-one : goal.invariant-loop-one
invariant-loop-one g l = All g.X.Sizes.sized (take l.one-index l.each)
