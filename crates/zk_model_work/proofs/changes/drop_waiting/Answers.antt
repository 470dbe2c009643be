use Rattle.zk_model_work.specs.Machine.{drop_one}
use Rattle.zk_model_work.proofs.Writes.{mapped-more}
use Rattle.zk_model_work.proofs.changes.drop_waiting.Goals as goal

pub loop-index-preserved : goal.loop-index-preserved
loop-index-preserved c =
    mapped-more (drop_one c.args.item) c.args.admissions.now c.loop-index.admissions c.loop-index.index _ c.drop_one.result
    c.loop-index-test.true c.loop-index.auto.admissions c.loop-index.invariant c.drop_one.ensures
