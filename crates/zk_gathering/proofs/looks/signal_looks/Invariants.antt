use Rattle.std.proofs.Common.{◌≡◌, ℕ, ◌++◌, List, drop}
use Rattle.zk_trace.specs.declared.looks.SignalLook.{SignalLook}
use Rattle.zk_trace.specs.Looked.{signal_look_at, all_looks}
use Rattle.zk_gathering.specs.Looks.{by_number}
use Rattle.zk_gathering.proofs.looks.signal_looks.Given as goal

abbrev pub invariant-loop-player : goal.invariant-loop-player
invariant-loop-player l = (now : ℕ → List SignalLook) × (l.all.items ≡ by_number now l.objects)
    × ((object : ℕ) → now object ++ all_looks (signal_look_at object) l.player (drop l.player l.logs)
    ≡ all_looks (signal_look_at object) 0 l.logs)
