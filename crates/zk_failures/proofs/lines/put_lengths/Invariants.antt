use Rattle.std.proofs.Common.{◌≡◌, ◌++◌, drop, length, map}
use Rattle.zk_failures.proofs.lines.put_lengths.Given as goal

abbrev pub invariant-loop-list : goal.invariant-loop-list
invariant-loop-list g l = l.lengths.items ++ map length (drop l.list-index l.lists) ≡ l.fn.lengths.items ++ map length l.lists
