use Rattle.std.proofs.Common.{arith}
use Rattle.zk_trace.proofs.PlacedSpots.{put-puts}
use Rattle.zk_trace.proofs.steps_read.place.Goals as goal

pub returns-then-player-len : goal.returns-then-player-len
returns-then-player-len c = λ done.
    let put = c.put.ensures done in
    put-puts c.args.slots.now.items c.args.line c.index_mut.result.now c.put.new.self (omega (arith, c.len.ensures)) c.index_mut.ensures.value put.0 put.1
