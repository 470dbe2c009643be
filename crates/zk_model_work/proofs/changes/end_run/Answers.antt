use Rattle.zk_model_work.specs.Machine.{end_one}
use Rattle.zk_model_work.proofs.Writes.{mapped-more}
use Rattle.zk_model_work.proofs.changes.end_run.Goals as goal

pub loop-index-preserved : goal.loop-index-preserved
loop-index-preserved c =
    mapped-more (end_one c.args.queue) c.args.admissions.now c.loop-index.admissions c.loop-index.index _ c.end_one.result
    c.loop-index-test.true c.loop-index.auto.admissions c.loop-index.invariant c.end_one.ensures
