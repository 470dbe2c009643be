use Rattle.zk_base.specs.Legal.{IsLegal}
use Rattle.zk_cells.proofs.Unpacking.{CameOutSoFar}
use Rattle.zk_cells.proofs.emptying.empty_rows.Given as goal

abbrev pub invariant-loop-index : goal.invariant-loop-index
invariant-loop-index g l = CameOutSoFar (IsLegal g.S.Service.machine) g.S.Service.start g.S.Service.history l.index l.fn.cells.items l.fn.passes.items l.cells.items l.passes.items l.services.items
