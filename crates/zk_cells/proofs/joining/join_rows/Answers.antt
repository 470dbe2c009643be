use Rattle.std.proofs.Common.{sym, subst, arith}
use Rattle.zk_base.specs.Legal.{IsLegal}
use Rattle.zk_cells.specs.Joined.{StandsIn}
use Rattle.zk_cells.proofs.Rejoining.{IsJoined, long, still-long, stands-next, one-joined, all-stand}
use Rattle.zk_cells.proofs.joining.join_rows.Goals as goal

pub index_mut-requires : goal.index_mut-requires
index_mut-requires g c =
    let legal = IsLegal g.S.Service.machine in
    let start = g.S.Service.start in
    let cells = c.args.cells.now in
    let is0 = c.args.into.now.items in
    let os0 = c.args.other.items in
    let l = c.loop-index in
    let own = c.requires.own in
    let same = still-long legal start l.index cells is0 os0 l.into.items l.other.items l.invariant in
    let many = long legal start own.1 cells os0 own.3 in
    let within = c.loop-index-test.true in
    let ok = l.other.ok in
    omega (arith, same.1)

pub index_mut-requires-in-loop-index : goal.index_mut-requires-in-loop-index
index_mut-requires-in-loop-index g c =
    let legal = IsLegal g.S.Service.machine in
    let start = g.S.Service.start in
    let cells = c.args.cells.now in
    let is0 = c.args.into.now.items in
    let os0 = c.args.other.items in
    let l = c.loop-index in
    let own = c.requires.own in
    let same = still-long legal start l.index cells is0 os0 l.into.items l.other.items l.invariant in
    let many = long legal start own.0 cells is0 own.2 in
    let within = c.loop-index-test.true in
    let ok = l.into.ok in
    omega (arith, same.0)

pub join_one-requires : goal.join_one-requires
join_one-requires g c =
    let legal = IsLegal g.S.Service.machine in
    let start = g.S.Service.start in
    let cells = c.args.cells.now in
    let is0 = c.args.into.now.items in
    let os0 = c.args.other.items in
    let l = c.loop-index in
    let own = c.requires.own in
    let both = stands-next legal start l.index own.0 own.1 cells is0 os0 l.into.items l.other.items c.index-cells-index.result c.index_mut-in-loop-index.result.now c.index_mut.result.now l.invariant own.2 own.3 c.loop-index-test.true
    c.index-cells-index.is c.index_mut-in-loop-index.ensures.value c.index_mut.ensures.value in
    record { own = (own.0, own.1, both.0, subst (λ o. StandsIn legal start own.1 c.index-cells-index.result o) (sym c.take-pass.ensures.value) both.1) }

pub loop-index-preserved : goal.loop-index-preserved
loop-index-preserved g c =
    let legal = IsLegal g.S.Service.machine in
    let start = g.S.Service.start in
    let cells = c.args.cells.now in
    let is0 = c.args.into.now.items in
    let os0 = c.args.other.items in
    let l = c.loop-index in
    let own = c.requires.own in
    let joined : IsJoined legal start c.index-cells-index.result c.index_mut-in-loop-index.result.now c.take-pass.result c.join_one.new.into =
    record { players = c.join_one.ensures.players; first = c.join_one.ensures.first; second = c.join_one.ensures.second } in
    one-joined legal start l.index cells is0 os0 l.into.items l.other.items c.index-cells-index.result c.index_mut-in-loop-index.result.now c.index_mut.result.now c.join_one.new.into c.take-pass.new.self l.invariant
    (long legal start own.0 cells is0 own.2) (long legal start own.1 cells os0 own.3) c.loop-index-test.true c.index-cells-index.is c.index_mut-in-loop-index.ensures.value c.index_mut.ensures.value
    (subst (λ o. IsJoined legal start c.index-cells-index.result c.index_mut-in-loop-index.result.now o c.join_one.new.into) c.take-pass.ensures.value joined)

pub returns-clause-players : goal.returns-clause-players
returns-clause-players g c = λ ws us a b.
    let legal = IsLegal g.S.Service.machine in
    let start = g.S.Service.start in
    let cells = c.args.cells.now in
    let is0 = c.args.into.now.items in
    let os0 = c.args.other.items in
    let l = c.loop-index in
    let over = c.loop-index-test.false in
    let most = l.auto.index-end in
    (all-stand legal start l.index ws us cells is0 os0 l.into.items l.other.items l.invariant (omega arith) a b).0

pub returns-clause-first : goal.returns-clause-first
returns-clause-first g c = λ ws us a b.
    let legal = IsLegal g.S.Service.machine in
    let start = g.S.Service.start in
    let cells = c.args.cells.now in
    let is0 = c.args.into.now.items in
    let os0 = c.args.other.items in
    let l = c.loop-index in
    let over = c.loop-index-test.false in
    let most = l.auto.index-end in
    (all-stand legal start l.index ws us cells is0 os0 l.into.items l.other.items l.invariant (omega arith) a b).1

pub returns-clause-second : goal.returns-clause-second
returns-clause-second g c = λ ws us a b.
    let legal = IsLegal g.S.Service.machine in
    let start = g.S.Service.start in
    let cells = c.args.cells.now in
    let is0 = c.args.into.now.items in
    let os0 = c.args.other.items in
    let l = c.loop-index in
    let over = c.loop-index-test.false in
    let most = l.auto.index-end in
    (all-stand legal start l.index ws us cells is0 os0 l.into.items l.other.items l.invariant (omega arith) a b).2
