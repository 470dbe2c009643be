use Rattle.std.proofs.Common.{◌-◌, ◌^◌, ◌<◌, arith, ◌∙◌}
use Rattle.zk_model_work.specs.declared.parts.Queue.{Queue}
use Rattle.zk_model_work.proofs.Writes.{settled-more, settled-all, settled-next}
use Rattle.zk_queue.specs.Open.{is_idle}
use Rattle.zk_work.proofs.active.settle.Goals as goal

pub settle_one-requires-clause-counted : goal.settle_one-requires-clause-counted
settle_one-requires-clause-counted c =
    settled-next (λ (q : Queue). q.drained < 2 ^ 64 - 1) (is_idle c.args.active.now.admissions) c.args.queues.now
    c.loop-number.queues c.loop-number.number _
    c.loop-number-test.true c.loop-number.invariant c.requires.counted

pub loop-number-preserved : goal.loop-number-preserved
loop-number-preserved c =
    settled-more (is_idle c.args.active.now.admissions) c.args.queues.now c.loop-number.queues c.loop-number.number _ c.settle_one.result
    c.loop-number-test.true c.loop-number.invariant c.settle_one.ensures

pub returns : goal.returns
returns c = c.loop-number.invariant
    ∙ settled-all (is_idle c.args.active.now.admissions) 0 c.args.queues.now c.loop-number.number (omega arith)
