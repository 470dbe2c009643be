use Rattle.std.proofs.Common.{◌≡◌, ◌≤◌, length, vec_len, vec_capacity}
use Rattle.zk_cells.proofs.NewPasses.{TakenSoFar}
use Rattle.zk_cells.proofs.dealing.deal_row.Given as goal

abbrev pub invariant-loop-index : goal.invariant-loop-index
invariant-loop-index g l =
    TakenSoFar l.index l.fn.lists.items l.row.items l.lists.items
    × (vec_len l.row ≡ l.index) × (length l.fn.lists.items ≤ vec_capacity l.row)
