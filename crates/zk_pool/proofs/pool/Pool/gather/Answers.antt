use Rattle.std.proofs.Common.{◌≡◌, ◌-◌, ◌<◌, [], vec_len, arith}
use Rattle.crossbeam_queue.specs.Passes.{view}
use Rattle.zk_pool.specs.Hands.{IsHandOf, hand_held, pool_hands}
use Rattle.zk_pool.proofs.Gathering.{All-last, stays-pass, stands-joined, held-joined}
use Rattle.zk_pool.proofs.Joining.{joins}
use Rattle.zk_pool.proofs.pool.Pool.gather.Goals as goal

pub absorb-requires-clause-rule : goal.absorb-requires-clause-rule
absorb-requires-clause-rule g c =
    let pass = c.loop-other.pass in
    let other = c.in-Some-pop.field-0.pass in
    let v = view pass in
    let left = c.loop-other.invariant.1 in
    let count = c.loop-other.invariant.2.hands in
    let some_hand : 0 < v.hands = omega arith in
    joins g.T.Numbered.number g.T.Numbered.home g.T.Numbered.kept pass.id v other.id (view other) some_hand

pub loop-other-preserved : goal.loop-other-preserved
loop-other-preserved g c =
    let number = g.T.Numbered.number in
    let home = g.T.Numbered.home in
    let pool = c.args.self.now in
    let hand = c.in-Some-pop.field-0 in
    let before = c.loop-other.hands in
    let after = c.pop-in-loop-other.new.self in
    let inv = c.loop-other.invariant in
    let is = c.in-Some-pop.ensures.items in
    let own = All-last (IsHandOf number home pool) before.items after.items hand is inv.4 in
    let none = All-last (λ h. hand_held h ≡ []) before.items after.items hand is inv.5 in
    let one_less = c.in-Some-pop.ensures.cases in
    let left = inv.1 in
    let now = c.absorb.ensures.rule in (
      stays-pass pool.queue c.loop-other.pass c.absorb.new.pass inv.0 c.absorb.ensures.queue,
      omega arith,
      stands-joined number home pool (pool_hands pool - vec_len before) (pool_hands pool - vec_len after)
          (view c.loop-other.pass) (view hand.pass) (view c.absorb.new.pass) now (omega arith) inv.2 own.1.stands,
      held-joined (view c.loop-other.pass) (view hand.pass) (view c.absorb.new.pass) now inv.3 none.1,
      own.0,
      none.0,
    )
