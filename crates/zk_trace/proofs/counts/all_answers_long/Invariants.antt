use Rattle.std.proofs.Common.{◌^◌, ◌<◌, length, take, All}
use Rattle.zk_worker.specs.declared.log.Log.{Log}
use Rattle.zk_trace.proofs.counts.all_answers_long.Given as goal

abbrev pub invariant-loop-log : goal.invariant-loop-log
invariant-loop-log l = All (λ (log : Log). length log.answers < 2 ^ 64) (take l.log-index l.logs)
