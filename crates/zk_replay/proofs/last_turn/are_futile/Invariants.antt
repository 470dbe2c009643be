use Rattle.std.proofs.Common.{take}
use Rattle.zk_replay.specs.LastTurns.{AreFutile}
use Rattle.zk_replay.proofs.last_turn.are_futile.Given as goal

abbrev pub invariant-loop-step : goal.invariant-loop-step
invariant-loop-step g l =
    AreFutile (g.V.Services.machines l.services) (g.V.Services.shown l.services) l.who (take l.step-index l.asked)
