use Rattle.zk_base.specs.Legal.{IsLegal}
use Rattle.zk_cells.proofs.Rejoining.{AreJoined}
use Rattle.zk_cells.proofs.joining.join_rows.Given as goal

abbrev pub invariant-loop-index : goal.invariant-loop-index
invariant-loop-index g l = AreJoined (IsLegal g.S.Service.machine) g.S.Service.start l.index l.cells l.fn.into.items l.fn.other.items l.into.items l.other.items
