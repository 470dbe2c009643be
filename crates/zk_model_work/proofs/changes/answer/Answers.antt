use Rattle.std.proofs.Common.{ap, ◌∙◌, get_or}
use Rattle.zk_model_work.specs.Machine.{answer_where, answer_one}
use Rattle.zk_model_work.proofs.Writes.{mapped-more}
use Rattle.zk_model_work.proofs.changes.answer.Goals as goal

pub loop-index-preserved : goal.loop-index-preserved
loop-index-preserved c =
    mapped-more (answer_one c.args.admissions.now c.args.queues.now c.args.closing c.args.who c.args.place)
    c.args.waits.now c.loop-index.waits c.loop-index.index _ c.answer_where.result
    c.loop-index-test.true c.loop-index.auto.waits c.loop-index.invariant (c.answer_where.ensures
    ∙ ap (λ b. answer_where b (get_or c.loop-index.waits c.loop-index.index _)) c.closes-so.ensures)
