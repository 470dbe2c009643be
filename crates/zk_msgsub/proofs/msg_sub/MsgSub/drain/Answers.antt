use Rattle.crossbeam_queue.specs.Passes.{view}
use Rattle.zk_msgsub.proofs.Closing.{drained}
use Rattle.zk_msgsub.proofs.Learning.{has_parts}
use Rattle.zk_msgsub.proofs.Moving.{takes}
use Rattle.zk_msgsub.proofs.msg_sub.MsgSub.drain.Goals as goal

pub pop_as-requires-clause-rule : goal.pop_as-requires-clause-rule
pop_as-requires-clause-rule g c =
    let pass = c.loop.pass in
    let may = c.loop.invariant.0.takes in
    (takes pass.id (view pass) may, has_parts pass.id (view pass) may)

pub returns-in-None-pop_as : goal.returns-in-None-pop_as
returns-in-None-pop_as g c =
    let found = c.in-None-pop_as.ensures.rule.1 in
    record { left = drained (view c.args.pass) (view c.loop.pass) c.loop.left.items found.0 c.loop.invariant.1 found.2 found.1 }
