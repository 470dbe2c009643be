use Rattle.std.proofs.Common.{◌≡◌, ◌++◌, drop}
use Rattle.zk_trace.specs.Looked.{item_look_at, looks_from}
use Rattle.zk_gathering.proofs.looks.add_item_looks.Given as goal

abbrev pub invariant-loop-step : goal.invariant-loop-step
invariant-loop-step l =
    l.looks ++ looks_from item_look_at l.player l.step (drop l.step l.steps)
    ≡ l.initial.looks ++ looks_from item_look_at l.player 0 l.steps
