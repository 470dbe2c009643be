use Rattle.std.proofs.Common.{◌≡◌, ◌++◌, drop}
use Rattle.zk_trace.specs.Stood.{entries_stood}
use Rattle.zk_trace.proofs.standing.put_entries.Given as goal

abbrev pub invariant-loop-place : goal.invariant-loop-place
invariant-loop-place g l = l.lines.items ++ entries_stood l.home l.place (drop l.place l.entries) ≡ l.fn.lines.items ++ entries_stood l.home 0 l.entries
