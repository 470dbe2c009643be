use Rattle.std.proofs.Common.{◌≡◌, ◌+◌, ◌≤◌, [], ◌∷◌, length, map, vec_capacity}
use Rattle.zk_signal.specs.Counts.{Rises}
use Rattle.zk_signal.specs.Passes.{IsPassOf, pass_players, pass_stamps, pass_room}
use Rattle.zk_uses.specs.Raising.{stamp_of}
use Rattle.zk_uses.proofs.raising.raise_often.Given as goal

abbrev pub invariant-loop-value : goal.invariant-loop-value
invariant-loop-value l =
    IsPassOf l.signal l.pass
    × (pass_players l.pass ≡ l.fn.raiser.player ∷ [])
    × (map stamp_of l.writes.items ≡ pass_stamps l.pass)
    × (length l.writes.items ≡ l.value)
    × Rises (pass_stamps l.pass)
    × (20000 ≤ l.value + pass_room l.pass)
    × (l.times ≤ vec_capacity l.writes)
