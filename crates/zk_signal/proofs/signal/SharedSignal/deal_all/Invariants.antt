use Rattle.std.proofs.Common.{◌≡◌, ◌+◌, ◌≤◌, [], length, vec_len, vec_capacity, take, drop}
use Rattle.zk_signal.specs.Passes.{AreNewPasses}
use Rattle.zk_signal.specs.Views.{opened}
use Rattle.zk_signal.proofs.signal.SharedSignal.deal_all.Given as goal

abbrev pub invariant-loop-index : goal.invariant-loop-index
invariant-loop-index l =
    (l.seat.table_id ≡ l.self.table.shared.table_id)
    × (l.seat.me ≡ (opened (drop l.index l.players), []))
    × AreNewPasses l.self (take l.index l.players) l.passes.items
    × (vec_len l.passes + length (drop l.index l.players) ≤ vec_capacity l.passes)
