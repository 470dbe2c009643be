use Rattle.std.proofs.Common.{◌+◌, Some, get_or, sym, ap, subst, ◌∙◌, arith}
use Rattle.zk_base.specs.Legal.{IsLegal}
use Rattle.zk_visit.specs.Seats.{seen_at, holds_at}
use Rattle.zk_cells.specs.Rows.{IsSeat}
use Rattle.zk_cells.proofs.Rowing.{taken-there, taken-one, cell-of, as_many, there, seat-there, seats-set, seen-there, holds-there, holds-new, holds-still, seen-others, visited-among, memory-among}
use Rattle.zk_cells.proofs.at_cells.visit_at.Goals as goal

pub index_mut-requires : goal.index_mut-requires
index_mut-requires g c =
    let same = as_many (IsLegal g.S.Service.machine) g.S.Service.start c.args.who c.args.cells.now c.args.seats.now.items c.requires.seats in
    let within = taken-there g.S.Service.machine g.S.Service.start c.args.cells.now c.args.object c.args.op c.requires.taken in
    let long = c.args.seats.now.ok in
    omega arith

pub visit_one-requires-clause-seat : goal.visit_one-requires-clause-seat
visit_one-requires-clause-seat g c =
    let legal = IsLegal g.S.Service.machine in
    let start = g.S.Service.start in
    let within = taken-there g.S.Service.machine start c.args.cells.now c.args.object c.args.op c.requires.taken in
    let both = seat-there legal start c.args.who c.args.cells.now c.args.seats.now.items c.args.object c.index-cells-object.result c.index_mut.result.now c.requires.seats within in
    subst (λ k. IsSeat legal start c.args.who k c.index_mut.result.now) (sym c.index-cells-object.is)
    (subst (λ o. IsSeat legal start c.args.who (get_or c.args.cells.now c.args.object c.index-cells-object.result) o) (sym c.index_mut.ensures.value) both)

pub visit_one-requires-clause-later : goal.visit_one-requires-clause-later
visit_one-requires-clause-later g c =
    let same = as_many (IsLegal g.S.Service.machine) g.S.Service.start c.args.who c.args.cells.now c.args.seats.now.items c.requires.seats in
    let within = taken-there g.S.Service.machine g.S.Service.start c.args.cells.now c.args.object c.args.op c.requires.taken in
    let seen = seen-there c.args.seats.now.items c.args.object c.index_mut.result.now (omega arith) in
    c.requires.later (seen_at c.index_mut.result.now) (seen ∙ ap (λ o. Some (seen_at o)) (sym c.index_mut.ensures.value))

pub visit_one-requires-clause-taken : goal.visit_one-requires-clause-taken
visit_one-requires-clause-taken g c =
    taken-one g.S.Service.machine g.S.Service.start c.args.cells.now c.args.object c.index-cells-object.result c.index-cells-object.result c.args.op c.requires.taken c.index-cells-object.is

pub returns-clause-seats : goal.returns-clause-seats
returns-clause-seats g c =
    let legal = IsLegal g.S.Service.machine in
    let start = g.S.Service.start in
    let within = taken-there g.S.Service.machine start c.args.cells.now c.args.object c.args.op c.requires.taken in
    seats-set legal start c.args.who c.args.cells.now c.args.seats.now.items c.args.object c.index-cells-object.result c.visit_one.new.seat c.requires.seats within
    (subst (λ k. IsSeat legal start c.args.who k c.visit_one.new.seat) c.index-cells-object.is c.visit_one.ensures.seat)

pub returns-clause-visited : goal.returns-clause-visited
returns-clause-visited g c =
    let m = g.S.Service.machine in
    let start = g.S.Service.start in
    let same = as_many (IsLegal m) start c.args.who c.args.cells.now c.args.seats.now.items c.requires.seats in
    let within = taken-there m start c.args.cells.now c.args.object c.args.op c.requires.taken in
    let taken = taken-one m start c.args.cells.now c.args.object c.index-cells-object.result c.index-cells-object.result c.args.op c.requires.taken c.index-cells-object.is in
    let cell = cell-of m start c.index-cells-object.result c.args.op taken in
    visited-among m start c.args.who c.args.step c.args.op c.args.cells.now c.args.seats.now.items c.args.object cell.0 c.index_mut.result.now c.visit_one.new.seat c.visit_one.result
    (there c.args.cells.now c.args.object c.index-cells-object.result c.index-cells-object.result within c.index-cells-object.is ∙ ap Some cell.1)
    (there c.args.seats.now.items c.args.object c.index_mut.result.now c.index_mut.result.now (omega arith) c.index_mut.ensures.value)
    (omega arith) (c.visit_one.ensures.visited cell.0 cell.1)

pub returns-clause-holds : goal.returns-clause-holds
returns-clause-holds g c =
    let same = as_many (IsLegal g.S.Service.machine) g.S.Service.start c.args.who c.args.cells.now c.args.seats.now.items c.requires.seats in
    let within = taken-there g.S.Service.machine g.S.Service.start c.args.cells.now c.args.object c.args.op c.requires.taken in
    let old = holds-there c.args.seats.now.items c.args.object c.index_mut.result.now (omega arith) ∙ ap holds_at (sym c.index_mut.ensures.value) in
    holds-new c.args.seats.now.items c.args.object c.visit_one.new.seat (omega arith) ∙ c.visit_one.ensures.holds ∙ ap (λ n. n + 1) (sym old)

pub returns-clause-kept : goal.returns-clause-kept
returns-clause-kept g c = seen-others c.args.seats.now.items c.args.object c.visit_one.new.seat

pub returns-clause-others : goal.returns-clause-others
returns-clause-others g c = λ i else. holds-still c.args.seats.now.items c.args.object i c.visit_one.new.seat else

pub returns-clause-memory : goal.returns-clause-memory
returns-clause-memory g c =
    let m = g.S.Service.machine in
    let start = g.S.Service.start in
    let same = as_many (IsLegal m) start c.args.who c.args.cells.now c.args.seats.now.items c.requires.seats in
    let within = taken-there m start c.args.cells.now c.args.object c.args.op c.requires.taken in
    let taken = taken-one m start c.args.cells.now c.args.object c.index-cells-object.result c.index-cells-object.result c.args.op c.requires.taken c.index-cells-object.is in
    let cell = cell-of m start c.index-cells-object.result c.args.op taken in
    memory-among g.S.Service.closes m start c.args.who c.args.op c.args.cells.now c.args.seats.now.items c.args.object cell.0 c.visit_one.new.seat c.visit_one.result
    (there c.args.cells.now c.args.object c.index-cells-object.result c.index-cells-object.result within c.index-cells-object.is ∙ ap Some cell.1)
    (omega arith) (c.visit_one.ensures.memory cell.0 cell.1)
