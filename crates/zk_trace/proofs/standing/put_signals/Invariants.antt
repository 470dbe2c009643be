use Rattle.std.proofs.Common.{◌≡◌, ◌++◌, drop}
use Rattle.zk_trace.specs.Stood.{signals_stood}
use Rattle.zk_trace.proofs.standing.put_signals.Given as goal

abbrev pub invariant-loop-object : goal.invariant-loop-object
invariant-loop-object g l = l.lines.items ++ signals_stood l.looks l.object (drop l.object l.histories) ≡ l.fn.lines.items ++ signals_stood l.looks 0 l.histories
