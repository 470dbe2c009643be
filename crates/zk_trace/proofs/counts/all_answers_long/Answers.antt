use Rattle.std.proofs.Common.{◌^◌, ◌<◌, length, All, take_all, subst}
use Rattle.std.proofs.lemmas.List.Elements.{All-more}
use Rattle.zk_worker.specs.declared.log.Log.{Log}
use Rattle.zk_trace.proofs.counts.all_answers_long.Goals as goal

pub loop-log-preserved : goal.loop-log-preserved
loop-log-preserved c =
    All-more (λ (log : Log). length log.answers < 2 ^ 64) c.args.logs.now c.loop-log.log-index c.log-item.result c.loop-log-test.true c.loop-log.invariant
    (subst (λ (log : Log). length log.answers < 2 ^ 64) c.log-item.is c.answers_long.ensures)

pub returns : goal.returns
returns c = subst (All (λ (log : Log). length log.answers < 2 ^ 64)) (take_all c.loop-log.log-index c.args.logs.now c.loop-log-test.false) c.loop-log.invariant
