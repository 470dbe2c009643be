use Rattle.std.proofs.Common.{◌≡◌, ◌++◌, drop}
use Rattle.zk_show_why.specs.Players.{places_from, players_in}
use Rattle.zk_show_why.proofs.run.Run.players_in.Given as goal

-- those found so far, and those among the logs that are left
abbrev pub invariant-loop-player : goal.invariant-loop-player
invariant-loop-player l =
    l.players.items ++ places_from l.player l.state (drop l.player l.self.trace.now.logs) ≡ players_in l.state l.self.trace.now
