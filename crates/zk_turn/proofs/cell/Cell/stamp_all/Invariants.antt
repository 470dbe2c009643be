use Rattle.std.proofs.Common.{◌≡◌, take}
use Rattle.zk_turn.specs.Passes.{IsStamped}
use Rattle.zk_turn.proofs.cell.Cell.stamp_all.Given as goal

abbrev pub invariant-loop-place : goal.invariant-loop-place
invariant-loop-place g l =
    (l.seat.table_id ≡ l.self.table.shared.table_id)
    × IsStamped g.S.Service.WORDS (take l.place l.touched) l.fn.seat.me l.seat.me
