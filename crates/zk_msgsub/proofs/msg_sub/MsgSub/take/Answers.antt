use Rattle.crossbeam_queue.specs.Passes.{view}
use Rattle.zk_msgsub.proofs.Dealing.{finds_nothing}
use Rattle.zk_msgsub.proofs.Learning.{has_parts}
use Rattle.zk_msgsub.proofs.Moving.{takes}
use Rattle.zk_msgsub.proofs.msg_sub.MsgSub.take.Goals as goal

pub pop_as-requires-clause-rule : goal.pop_as-requires-clause-rule
pop_as-requires-clause-rule g c =
    let pass = c.args.sub.now.pass in
    let may = c.requires.own.takes in
    (takes pass.id (view pass) may, has_parts pass.id (view pass) may)

pub another-requires-clause-rule : goal.another-requires-clause-rule
another-requires-clause-rule g c = finds_nothing _ _
