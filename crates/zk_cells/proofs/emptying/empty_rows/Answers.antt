use Rattle.std.proofs.Common.{◌+◌, length, set, sym, subst, arith}
use Rattle.zk_base.specs.Legal.{IsLegal}
use Rattle.zk_cells.specs.Joined.{StandsIn}
use Rattle.zk_cells.specs.Closed.{IsClosed}
use Rattle.zk_cells.specs.Kernels.{HasWhole}
use Rattle.zk_cells.proofs.Unpacking.{CameOutSoFar, so-long, long, next-stands, one-out, all-out}
use Rattle.zk_cells.proofs.emptying.empty_rows.Goals as goal

pub index_mut-requires-in-loop-index : goal.index_mut-requires-in-loop-index
index_mut-requires-in-loop-index g c =
    let legal = IsLegal g.S.Service.machine in
    let start = g.S.Service.start in
    let history = g.S.Service.history in
    let cs0 = c.args.cells.items in
    let ps0 = c.args.passes.items in
    let all = c.requires.all in
    let l = c.loop-index in
    let same = so-long legal start history l.index cs0 ps0 l.cells.items l.passes.items l.services.items l.invariant in
    let many = long legal start history all.0 cs0 ps0 all.1 in
    let test = c.loop-index-test.true in
    let end = c.len-index-end.ensures in
    let ok = c.args.cells.ok in
    let ok-passes = l.passes.ok in
    omega (arith, same.1)

pub empty_seat-requires : goal.empty_seat-requires
empty_seat-requires g c =
    let legal = IsLegal g.S.Service.machine in
    let start = g.S.Service.start in
    let history = g.S.Service.history in
    let cs0 = c.args.cells.items in
    let ps0 = c.args.passes.items in
    let all = c.requires.all in
    let l = c.loop-index in
    let same = so-long legal start history l.index cs0 ps0 l.cells.items l.passes.items l.services.items l.invariant in
    let many = long legal start history all.0 cs0 ps0 all.1 in
    let test = c.loop-index-test.true in
    let end = c.len-index-end.ensures in
    let ok = c.args.cells.ok in
    let both = next-stands legal start history l.index all.0 cs0 ps0 l.cells.items l.passes.items l.services.items c.index_mut.result.now c.index_mut-in-loop-index.result.now l.invariant all.1 all.2 (omega arith)
    c.index_mut.ensures.value c.index_mut-in-loop-index.ensures.value in
    record {
      all = (
        all.0,
        subst (λ k. StandsIn legal start all.0 k c.take-pass.result) (sym c.take-cell.ensures.value) (subst (λ p. StandsIn legal start all.0 c.index_mut.result.now p) (sym c.take-pass.ensures.value) both.0),
        subst (λ k. HasWhole (length all.0) k) (sym c.take-cell.ensures.value) both.1,
      );
    }

pub loop-index-preserved : goal.loop-index-preserved
loop-index-preserved g c =
    let legal = IsLegal g.S.Service.machine in
    let start = g.S.Service.start in
    let history = g.S.Service.history in
    let cs0 = c.args.cells.items in
    let ps0 = c.args.passes.items in
    let all = c.requires.all in
    let l = c.loop-index in
    let same = so-long legal start history l.index cs0 ps0 l.cells.items l.passes.items l.services.items l.invariant in
    let many = long legal start history all.0 cs0 ps0 all.1 in
    let test = c.loop-index-test.true in
    let end = c.len-index-end.ensures in
    let ok = c.args.cells.ok in
    subst (λ xs. CameOutSoFar legal start history (l.index + 1) cs0 ps0 (set l.cells.items l.index c.take-cell.new.self) (set l.passes.items l.index c.take-pass.new.self) xs) (sym c.in_ok-push.ensures.items)
    (one-out legal start history l.index cs0 ps0 l.cells.items l.passes.items l.services.items c.index_mut.result.now c.take-cell.new.self c.index_mut-in-loop-index.result.now c.take-pass.new.self c.empty_seat.result l.invariant many (omega arith)
    c.index_mut.ensures.value c.index_mut-in-loop-index.ensures.value
    (subst (λ k. IsClosed legal start history k c.index_mut-in-loop-index.result.now c.empty_seat.result) c.take-cell.ensures.value
    (subst (λ p. IsClosed legal start history c.take-cell.result p c.empty_seat.result) c.take-pass.ensures.value c.empty_seat.ensures)))

pub returns : goal.returns
returns g c =
    let legal = IsLegal g.S.Service.machine in
    let start = g.S.Service.start in
    let history = g.S.Service.history in
    let cs0 = c.args.cells.items in
    let ps0 = c.args.passes.items in
    let all = c.requires.all in
    let l = c.loop-index in
    let many = long legal start history all.0 cs0 ps0 all.1 in
    let over = c.loop-index-test.false in
    let most = l.auto.index-end in
    let end = c.len-index-end.ensures in
    let ok = c.args.cells.ok in
    all-out legal start history l.index cs0 ps0 l.cells.items l.passes.items l.services.items l.invariant (omega arith) many
