use Rattle.std.proofs.Common.{◌≡◌, ◌++◌}
use Rattle.crossbeam_queue.specs.Passes.{view}
use Rattle.zk_msgsub.specs.Seats.{IsTakerPass}
use Rattle.zk_msgsub.specs.Views.{having_taken}
use Rattle.zk_msgsub.proofs.msg_sub.MsgSub.drain.Given as goal

abbrev pub invariant-loop : goal.invariant-loop
invariant-loop g l =
    IsTakerPass l.self l.pass
    × (view l.pass ≡ having_taken (view l.fn.pass) ((view l.fn.pass).taken ++ l.left.items))
