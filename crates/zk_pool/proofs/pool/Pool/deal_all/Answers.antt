use Rattle.std.proofs.Common.{◌≡◌, ◌+◌, ◌-◌, ◌<◌, ap, arith}
use Rattle.crossbeam_queue.specs.Passes.{view}
use Rattle.zk_pool.specs.Hands.{pool_hands}
use Rattle.zk_pool.proofs.Dealing.{deals}
use Rattle.zk_pool.proofs.pool.Pool.deal_all.Goals as goal

pub another-dealt-requires-clause-rule : goal.another-dealt-requires-clause-rule
another-dealt-requires-clause-rule g c =
    let pass = c.loop-next.pass in
    let v = view pass in
    let hands : v.hands ≡ pool_hands c.args.self.now + 1 - c.loop-next.next = ap (λ u. u.hands) c.loop-next.invariant.1 in
    let more = c.loop-next-test.true in
    let two_hands : 1 < v.hands = omega arith in
    deals g.T.Numbered.number g.T.Numbered.home g.T.Numbered.kept pass.id v two_hands
