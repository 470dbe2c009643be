use Rattle.std.proofs.Common.{◌≡◌, ◌++◌, drop}
use Rattle.zk_show_why.specs.Times.{ends_words}
use Rattle.zk_show_why.proofs.times.put_ends.Given as goal

-- what is said of the players that are left goes behind what is there now
abbrev pub invariant-loop-player : goal.invariant-loop-player
invariant-loop-player l = l.out.items ++ ends_words l.scenario.decls l.trace (drop l.player-index l.players)
    ≡ l.initial.out.items ++ ends_words l.scenario.decls l.trace l.players
