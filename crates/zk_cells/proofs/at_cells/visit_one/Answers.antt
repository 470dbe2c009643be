use Rattle.std.proofs.Common.{sym, subst, arith}
use Rattle.zk_base.specs.Legal.{IsLegal}
use Rattle.zk_cells.specs.Rows.{IsSeat}
use Rattle.zk_cells.proofs.at_cells.visit_one.Goals as goal

pub visit-requires-clause-at : goal.visit-requires-clause-at
visit-requires-clause-at g c = (0, rw c.in-Some.is at c.requires.seat, omega arith)

pub returns-clause-seat : goal.returns-clause-seat
returns-clause-seat g c =
    let was = rw c.in-Some.is at c.requires.seat in
    subst (λ k. IsSeat (IsLegal g.S.Service.machine) g.S.Service.start c.args.who k c.visit.new.seat) (sym c.in-Some.is) (c.visit.ensures.at 0 was (omega arith))
