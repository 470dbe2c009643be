use Rattle.std.proofs.Common.{◌≡◌, ◌+◌, ◌≤◌, [], length, vec_len, vec_capacity, take, drop}
use Rattle.zk_base.specs.Legal.{IsLegal}
use Rattle.zk_turn.specs.Players.{Differ}
use Rattle.zk_turn.specs.Views.{opened}
use Rattle.zk_turn.specs.Passes.{AreNewPasses, given_to}
use Rattle.zk_turn.proofs.cell.Cell.deal_all.Given as goal

abbrev pub invariant-loop-index : goal.invariant-loop-index
invariant-loop-index g l =
    (l.seat.table_id ≡ l.self.table.shared.table_id)
    × (l.seat.me ≡ (opened (g.S.Service.start (given_to l.self)) g.S.Service.WORDS (drop l.index l.players), []))
    × Differ (drop l.index l.players)
    × AreNewPasses (IsLegal g.S.Service.machine) g.S.Service.start l.self (take l.index l.players) l.passes.items
    × (vec_len l.passes + length (drop l.index l.players) ≤ vec_capacity l.passes)
