use Rattle.std.proofs.Common.{◌-◌, ◌^◌, ◌<◌, arith, ◌∙◌}
use Rattle.zk_model_work.specs.declared.parts.Queue.{Queue}
use Rattle.zk_model_work.specs.Questions.{is_empty_and_idle}
use Rattle.zk_model_work.proofs.Writes.{settled-more, settled-all, settled-next}
use Rattle.zk_model_work.proofs.changes.settle.Goals as goal

pub settle_one-requires : goal.settle_one-requires
settle_one-requires c =
    settled-next (λ (q : Queue). q.drained < 2 ^ 64 - 1) (is_empty_and_idle c.args.admissions.now) c.args.queues.now
    c.loop-number.queues c.loop-number.number _
    c.loop-number-test.true c.loop-number.invariant c.requires.counted

pub loop-number-preserved : goal.loop-number-preserved
loop-number-preserved c =
    settled-more (is_empty_and_idle c.args.admissions.now) c.args.queues.now c.loop-number.queues c.loop-number.number _
    c.settle_one.result
    c.loop-number-test.true c.loop-number.invariant c.settle_one.ensures

pub returns : goal.returns
returns c = c.loop-number.invariant
    ∙ settled-all (is_empty_and_idle c.args.admissions.now) 0 c.args.queues.now c.loop-number.number (omega arith)
