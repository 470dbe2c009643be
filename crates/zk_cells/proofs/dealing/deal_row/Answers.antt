use Rattle.std.proofs.Common.{◌+◌, set, sym, subst, arith}
use Rattle.zk_cells.proofs.NewPasses.{taken-popped, TakenSoFar, one-taken, all-taken}
use Rattle.zk_cells.proofs.dealing.deal_row.Goals as goal

pub loop-index-preserved : goal.loop-index-preserved
loop-index-preserved g c =
    let l = c.loop-index in
    let olds = c.args.lists.now.items in
    let within = c.loop-index-test.true in
    let end = c.len-index-end.ensures in
    let ok = c.args.lists.now.ok in
    let was = l.invariant.1 in
    let room = l.invariant.2 in
    let len = c.push_within.ensures.len in
    let kept = c.push_within.ensures.capacity in
    let taken = taken-popped c.index_mut.result.now c.pop.new.self c.pop.result c.pop.ensures.items c.pop.ensures.rest
    c.pop.ensures.cases in (
      subst (λ ps. TakenSoFar (l.index + 1) olds ps (set l.lists.items l.index c.pop.new.self))
          (sym c.push_within.ensures.items)
          (one-taken l.index olds l.row.items l.lists.items c.index_mut.result.now c.pop.result c.pop.new.self
          l.invariant.0 (omega arith) c.index_mut.ensures.value taken),
      omega arith,
      omega arith,
    )

pub returns : goal.returns
returns g c =
    let l = c.loop-index in
    let over = c.loop-index-test.false in
    let most = l.auto.index-end in
    let end = c.len-index-end.ensures in
    let ok = c.args.lists.now.ok in
    all-taken l.index c.args.lists.now.items l.row.items l.lists.items l.invariant.0 (omega arith)
