use Rattle.std.proofs.Common.{◌≡◌, ◌+◌, take, length}
use Rattle.std.specs.List.{sum_by}
use Rattle.zk_failures.specs.Capped.{capped}
use Rattle.zk_failures.proofs.lines.all_logs.Given as goal

abbrev pub invariant-loop-log : goal.invariant-loop-log
invariant-loop-log l = l.lines ≡ capped (sum_by (λ log. 1 + length log.answers) (take l.log-index l.logs))
