use Rattle.std.proofs.Common.{◌<◌, ◌∙◌, sym, ap, arith}
use Rattle.crossbeam_queue.specs.Passes.{view}
use Rattle.zk_pool.proofs.Dealing.{grows}
use Rattle.zk_pool.proofs.pool.Pool.grow.Goals as goal

pub another-requires-clause-rule : goal.another-requires-clause-rule
another-requires-clause-rule g c =
    let pass = c.loop-made.pass in
    let v = view pass in
    let hands = ap (λ u. u.hands) c.loop-made.invariant.1 in
    let made = ap (λ u. u.made) c.loop-made.invariant.1 in
    let from_one = c.loop-made.auto.made in
    let some_hand : 0 < v.hands = omega arith in
    grows g.T.Numbered.number g.T.Numbered.home g.T.Numbered.kept pass.id v some_hand (hands ∙ sym made)
