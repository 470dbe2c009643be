use Rattle.std.proofs.Common.{◌≡◌, ℕ, ◌++◌, List, drop}
use Rattle.zk_trace.specs.declared.looks.SignalLook.{SignalLook}
use Rattle.zk_trace.specs.Looked.{signal_look_at, looks_from}
use Rattle.zk_gathering.specs.Looks.{by_number}
use Rattle.zk_gathering.proofs.looks.add_signal_looks.Given as goal

abbrev pub invariant-loop-step : goal.invariant-loop-step
invariant-loop-step l = (before : ℕ → List SignalLook) (n : ℕ) → l.initial.all ≡ by_number before n →
    (now : ℕ → List SignalLook) × (l.all ≡ by_number now n)
    × ((object : ℕ) → now object ++ looks_from (signal_look_at object) l.player l.step (drop l.step l.steps)
    ≡ before object ++ looks_from (signal_look_at object) l.player 0 l.steps)
