use Rattle.zk_model_work.specs.Machine.{expire_one}
use Rattle.zk_model_work.proofs.Writes.{mapped-more}
use Rattle.zk_model_work.proofs.changes.expire.Goals as goal

pub loop-index-preserved : goal.loop-index-preserved
loop-index-preserved c =
    mapped-more (expire_one c.args.time) c.args.arms.now c.loop-index.arms c.loop-index.index _ c.expire_one.result
    c.loop-index-test.true c.loop-index.auto.arms c.loop-index.invariant c.expire_one.ensures
