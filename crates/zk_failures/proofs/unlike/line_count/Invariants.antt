use Rattle.std.proofs.Common.{◌≡◌, ◌+◌, drop}
use Rattle.zk_failures.specs.Answering.{line_count}
use Rattle.zk_failures.proofs.unlike.line_count.Given as goal

abbrev pub invariant-loop-object : goal.invariant-loop-object
invariant-loop-object g l = l.lines + line_count l.looks l.object (drop l.object l.histories) ≡ line_count l.looks 0 l.histories
