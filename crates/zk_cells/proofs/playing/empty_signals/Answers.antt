use Rattle.std.proofs.Common.{◌+◌, length, set, sym, subst, arith}
use Rattle.zk_cells.specs.Joined.{HasSharedIn, left_at}
use Rattle.zk_cells.specs.Kernels.{IsSharedBy}
use Rattle.zk_cells.specs.Notes.{writes_at}
use Rattle.zk_cells.proofs.PlayedSignals.{IsPlayedOut, PlayedSoFar, so-long, next-played, one-played, all-played}
use Rattle.zk_cells.proofs.Sharing.{long-shared}
use Rattle.zk_cells.proofs.playing.empty_signals.Goals as goal

pub index_mut-requires-in-loop-index : goal.index_mut-requires-in-loop-index
index_mut-requires-in-loop-index c =
    let ss0 = c.args.signals.items in
    let ps0 = c.args.passes.items in
    let own = writes_at c.args.notes.now in
    let all = c.requires.all in
    let l = c.loop-index in
    let same = so-long own l.index ss0 ps0 l.signals.items l.passes.items l.services.items l.invariant in
    let many = long-shared all.0 (left_at c.args.notes.now) all.1 ss0 ps0 all.2 in
    let test = c.loop-index-test.true in
    let end = c.len-index-end.ensures in
    let ok = c.args.signals.ok in
    let ok-passes = l.passes.ok in
    omega (arith, same.1)

pub empty_signal-requires-clause-all : goal.empty_signal-requires-clause-all
empty_signal-requires-clause-all c =
    let ss0 = c.args.signals.items in
    let ps0 = c.args.passes.items in
    let own = writes_at c.args.notes.now in
    let left = left_at c.args.notes.now in
    let all = c.requires.all in
    let l = c.loop-index in
    let same = so-long own l.index ss0 ps0 l.signals.items l.passes.items l.services.items l.invariant in
    let test = c.loop-index-test.true in
    let end = c.len-index-end.ensures in
    let ok = c.args.signals.ok in
    let both = next-played own l.index (length all.0) all.0 left all.1 ss0 ps0 l.signals.items l.passes.items l.services.items c.index_mut.result.now c.index_mut-in-loop-index.result.now l.invariant all.2 all.3 (omega arith)
    c.index_mut.ensures.value c.index_mut-in-loop-index.ensures.value in (
      all.0,
      all.1 l.index,
      subst (λ s. HasSharedIn all.0 (left l.index) (all.1 l.index) s c.take-pass.result) (sym c.take-signal.ensures.value)
          (subst (λ p. HasSharedIn all.0 (left l.index) (all.1 l.index) c.index_mut.result.now p) (sym c.take-pass.ensures.value) both.0),
      subst (λ s. IsSharedBy (length all.0) s) (sym c.take-signal.ensures.value) both.1,
      all.4,
    )

pub loop-index-preserved : goal.loop-index-preserved
loop-index-preserved c =
    let ss0 = c.args.signals.items in
    let ps0 = c.args.passes.items in
    let own = writes_at c.args.notes.now in
    let all = c.requires.all in
    let l = c.loop-index in
    let many = long-shared all.0 (left_at c.args.notes.now) all.1 ss0 ps0 all.2 in
    let test = c.loop-index-test.true in
    let end = c.len-index-end.ensures in
    let ok = c.args.signals.ok in
    let made = c.in_ok-empty_signal.field-0 in
    let played : IsPlayedOut own l.index c.index_mut.result.now c.index_mut-in-loop-index.result.now made =
    subst (λ s. IsPlayedOut own l.index s c.index_mut-in-loop-index.result.now made) c.take-signal.ensures.value
    (subst (λ p. IsPlayedOut own l.index c.take-signal.result p made) c.take-pass.ensures.value c.in_ok-empty_signal.ensures) in
    subst (λ xs. PlayedSoFar own (l.index + 1) ss0 ps0 (set l.signals.items l.index c.take-signal.new.self) (set l.passes.items l.index c.take-pass.new.self) xs) (sym c.in_ok-push.ensures.items)
    (one-played own l.index ss0 ps0 l.signals.items l.passes.items l.services.items c.index_mut.result.now c.take-signal.new.self c.index_mut-in-loop-index.result.now c.take-pass.new.self made
    l.invariant many (omega arith) c.index_mut.ensures.value c.index_mut-in-loop-index.ensures.value played)

pub returns : goal.returns
returns c = λ ns found a.
    let l = c.loop-index in
    let over = c.loop-index-test.false in
    let most = l.auto.index-end in
    let end = c.len-index-end.ensures in
    let ok = c.args.signals.ok in
    all-played (writes_at c.args.notes.now) l.index ns found c.args.signals.items c.args.passes.items l.signals.items l.passes.items l.services.items l.invariant (omega arith) a
