use denote.Param.Send.{param_send, sendable}
use Rattle.zk_pool.proofs.Crossing.{hand_send, pool_sync}
use Rattle.zk_uses.proofs.juggling.juggled_by_two.Lts as lts
use Rattle.zk_uses.proofs.juggling.juggled_by_two.Goals as goal

pub join-first-requires-send-F : goal.join-first-requires-send-F
join-first-requires-send-F g c κs within =
    param_send 1 (lts.arg-0-1 g.row.T g.row.R g.row.T-Home g.T.laws g.R.laws g.T.Home.laws g.T.Juggled g.T.Juggled-dict g.T.Numbered g.T.Numbered-dict g.R.Threads g.R.Threads-dict g.R.Wait g.R.Wait-dict g.T.Destruct-dict κs)
    (search (sendable, hand_send, pool_sync) depth 14)
