use Rattle.std.proofs.Common.{◌≡◌, ◌++◌, take, drop, map}
use Rattle.zk_replay.specs.LastTurns.{counted_again}
use Rattle.zk_replay.proofs.last_turn.count_again.Given as goal

abbrev pub invariant-loop-asked : goal.invariant-loop-asked
invariant-loop-asked g l = l.asked ≡ map (counted_again (g.V.Services.shown l.services)) (take l.asked-index l.fn.asked)
    ++ drop l.asked-index l.fn.asked
