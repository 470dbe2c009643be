use Rattle.std.proofs.Common.{◌^◌, ◌<◌, length, take, All}
use Rattle.zk_trace.proofs.counts.all_long.Given as goal

abbrev pub invariant-loop-list : goal.invariant-loop-list
invariant-loop-list g l = All (λ list. length list < 2 ^ 64) (take l.list-index l.lists)
