use Rattle.zk_work.proofs.Fresh.{fresh_is}
use Rattle.zk_work.proofs.engine.WorkEngine.new.Goals as goal

pub returns : goal.returns
returns c =
    fresh_is c.args.items c.args.workers.now c.args.started.now _ _ _ _ _
    c.new-2.ensures.waits (c.in_ok-last.ensures) (c.in_ok-active.ensures.admissions) (c.in_ok-active.ensures.timeouts)
    (c.in_ok-queues.ensures) c.requires.same c.requires.queues
