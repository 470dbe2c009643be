use Rattle.crossbeam_queue.specs.Passes.{view}
use Rattle.zk_msgsub.proofs.Closing.{closes}
use Rattle.zk_msgsub.proofs.msg_sub.MsgSub.close.Goals as goal

pub returns-clause-parts : goal.returns-clause-parts
returns-clause-parts g c =
    let all = c.gather-pass.ensures.all in
    closes (view c.gather-pass.result) c.args.seats.items _ c.drain.result all.lists all.taken_is c.drain.ensures.left
