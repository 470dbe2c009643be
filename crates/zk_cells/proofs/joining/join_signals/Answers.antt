use Rattle.std.proofs.Common.{sym, subst, arith}
use Rattle.zk_cells.specs.Joined.{HasSharedIn}
use Rattle.zk_cells.proofs.Sharing.{IsSigJoined, long-shared, still-shared, next-shared, one-shared, all-shared}
use Rattle.zk_cells.proofs.joining.join_signals.Goals as goal

pub index_mut-requires : goal.index_mut-requires
index_mut-requires c =
    let ss = c.args.signals.now in
    let is0 = c.args.into.now.items in
    let os0 = c.args.other.items in
    let l = c.loop-index in
    let own = c.requires.own in
    let same = still-shared l.index ss is0 os0 l.into.items l.other.items l.invariant in
    let many = long-shared own.1 own.3 own.5 ss os0 own.7 in
    let within = c.loop-index-test.true in
    let ok = l.other.ok in
    omega (arith, same.1)

pub index_mut-requires-in-loop-index : goal.index_mut-requires-in-loop-index
index_mut-requires-in-loop-index c =
    let ss = c.args.signals.now in
    let is0 = c.args.into.now.items in
    let os0 = c.args.other.items in
    let l = c.loop-index in
    let own = c.requires.own in
    let same = still-shared l.index ss is0 os0 l.into.items l.other.items l.invariant in
    let many = long-shared own.0 own.2 own.4 ss is0 own.6 in
    let within = c.loop-index-test.true in
    let ok = l.into.ok in
    omega (arith, same.0)

pub join_signal-requires : goal.join_signal-requires
join_signal-requires c =
    let ss = c.args.signals.now in
    let is0 = c.args.into.now.items in
    let os0 = c.args.other.items in
    let l = c.loop-index in
    let own = c.requires.own in
    let both = next-shared l.index own.0 own.1 own.2 own.3 own.4 own.5 ss is0 os0 l.into.items l.other.items c.index-signals-index.result c.index_mut-in-loop-index.result.now c.index_mut.result.now l.invariant own.6 own.7
    c.loop-index-test.true c.index-signals-index.is c.index_mut-in-loop-index.ensures.value c.index_mut.ensures.value in
    record {
      own = (
        own.0,
        own.1,
        own.2 l.index,
        own.3 l.index,
        own.4 l.index,
        own.5 l.index,
        both.0,
        subst (λ o. HasSharedIn own.1 (own.3 l.index) (own.5 l.index) c.index-signals-index.result o) (sym c.take-pass.ensures.value) both.1,
      );
    }

pub loop-index-preserved : goal.loop-index-preserved
loop-index-preserved c =
    let ss = c.args.signals.now in
    let is0 = c.args.into.now.items in
    let os0 = c.args.other.items in
    let l = c.loop-index in
    let own = c.requires.own in
    one-shared l.index ss is0 os0 l.into.items l.other.items c.index-signals-index.result c.index_mut-in-loop-index.result.now c.index_mut.result.now c.join_signal.new.into c.take-pass.new.self l.invariant
    (long-shared own.0 own.2 own.4 ss is0 own.6) (long-shared own.1 own.3 own.5 ss os0 own.7) c.loop-index-test.true c.index-signals-index.is c.index_mut-in-loop-index.ensures.value c.index_mut.ensures.value
    (subst (λ o. IsSigJoined c.index-signals-index.result c.index_mut-in-loop-index.result.now o c.join_signal.new.into) c.take-pass.ensures.value c.join_signal.ensures)

pub returns : goal.returns
returns c = λ ns ms xs ys fs gs a b.
    let l = c.loop-index in
    let over = c.loop-index-test.false in
    let most = l.auto.index-end in
    all-shared l.index ns ms xs ys fs gs c.args.signals.now c.args.into.now.items c.args.other.items l.into.items l.other.items l.invariant (omega arith) a b
