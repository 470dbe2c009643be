use Rattle.std.proofs.Common.{◌≡◌, map, take}
use Rattle.zk_worker.specs.Protocol.{attempts}
use Rattle.zk_replay.specs.LastTurns.{asked_at}
use Rattle.zk_replay.proofs.last_turn.ask.Given as goal

abbrev pub invariant-loop-index : goal.invariant-loop-index
invariant-loop-index g l =
    l.asked.items ≡ map (asked_at (g.V.Services.shown l.services)) (take l.index (attempts l.scenario l.player))
