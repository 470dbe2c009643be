use Rattle.std.proofs.Common.{◌≡◌, [], map}
use Rattle.std.specs.List.{range_with_len}
use Rattle.zk_trace.proofs.steps_read.no_lines.Given as goal

abbrev pub invariant-loop-player : goal.invariant-loop-player
invariant-loop-player l = l.lists.items ≡ map (λ player. []) (range_with_len 0 l.player)
