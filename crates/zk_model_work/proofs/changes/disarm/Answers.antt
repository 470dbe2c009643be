use Rattle.zk_model_work.specs.Machine.{disarm_one}
use Rattle.zk_model_work.proofs.Writes.{mapped-more}
use Rattle.zk_model_work.proofs.changes.disarm.Goals as goal

pub loop-index-preserved : goal.loop-index-preserved
loop-index-preserved c =
    mapped-more (disarm_one c.args.item) c.args.arms.now c.loop-index.arms c.loop-index.index _ c.disarm_one.result
    c.loop-index-test.true c.loop-index.auto.arms c.loop-index.invariant c.disarm_one.ensures
