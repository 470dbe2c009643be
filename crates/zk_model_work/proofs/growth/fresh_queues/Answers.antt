use Rattle.std.proofs.Common.{false}
use Rattle.zk_model_work.proofs.Counts.{fresh_queues-more}
use Rattle.zk_model_work.proofs.growth.fresh_queues.Goals as goal

pub loop-number-preserved : goal.loop-number-preserved
loop-number-preserved c =
    let more = fresh_queues-more c.args.workers.now c.args.started.now c.loop-number.number 0 false
    c.loop-number-test.true c.requires.same in
    cc (more, c.in_ok-push.ensures.items)
