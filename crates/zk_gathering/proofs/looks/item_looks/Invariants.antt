use Rattle.std.proofs.Common.{◌≡◌, ◌++◌, drop}
use Rattle.zk_trace.specs.Looked.{item_look_at, all_looks, item_looks_of}
use Rattle.zk_gathering.proofs.looks.item_looks.Given as goal

abbrev pub invariant-loop-player : goal.invariant-loop-player
invariant-loop-player l =
    l.looks ++ all_looks item_look_at l.player (drop l.player l.logs) ≡ item_looks_of l.logs
