use Rattle.std.proofs.Common.{◌≡◌, ◌++◌, drop, map}
use Rattle.zk_trace.proofs.steps_read.spots_of.Given as goal

abbrev pub invariant-loop-line : goal.invariant-loop-line
invariant-loop-line l = l.spots.items ++ map (λ line. line.spot) (drop l.line-index l.line-items) ≡ map (λ line. line.spot) l.line-items
