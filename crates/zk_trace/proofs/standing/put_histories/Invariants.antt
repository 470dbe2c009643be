use Rattle.std.proofs.Common.{◌≡◌, ◌++◌, drop}
use Rattle.zk_trace.specs.Stood.{histories_stood}
use Rattle.zk_trace.proofs.standing.put_histories.Given as goal

abbrev pub invariant-loop-object : goal.invariant-loop-object
invariant-loop-object g l = l.lines.items ++ histories_stood l.family l.object (drop l.object l.histories) ≡ l.fn.lines.items ++ histories_stood l.family 0 l.histories
