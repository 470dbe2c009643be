use Rattle.std.proofs.Common.{arith}
use Rattle.zk_trace.proofs.StoodLists.{put-there, put-past}
use Rattle.zk_trace.proofs.steps_read.put_line.Goals as goal

pub returns-in_ok-push : goal.returns-in_ok-push
returns-in_ok-push c =
    put-there c.args.line.player c.args.line c.args.lists.now.items c.index_mut.result.now c.push.new.self
    (omega (arith, c.len.ensures)) c.index_mut.ensures.value c.in_ok-push.ensures.ok

pub returns-else-player-len : goal.returns-else-player-len
returns-else-player-len c = put-past c.args.line.player c.args.line c.args.lists.now.items (omega (arith, c.len.ensures))
