use Rattle.std.proofs.Common.{ap, set, ◌∙◌}
use Rattle.zk_model_work.proofs.Writes.{set-change, change-past}
use Rattle.zk_model_work.proofs.changes.change.Goals as goal

pub returns-then-number-queues : goal.returns-then-number-queues
returns-then-number-queues c =
    ap (set c.args.queues.now c.args.number) c.changed_queue.ensures
    ∙ set-change c.args.how c.args.queues.now c.args.number _ c.if-number-queues.true

pub returns-else-number-queues : goal.returns-else-number-queues
returns-else-number-queues c = change-past c.args.how c.args.queues.now c.args.number c.if-number-queues.false
