use Rattle.std.proofs.Common.{◌≡◌, ◌-◌, ◌<◌, [], All, vec_len}
use Rattle.crossbeam_queue.specs.Passes.{view, IsPassOf}
use Rattle.zk_pool.specs.Hands.{IsHandOf, StandsFor, hand_held, pool_hands}
use Rattle.zk_pool.proofs.pool.Pool.gather.Given as goal

abbrev pub invariant-loop-other : goal.invariant-loop-other
invariant-loop-other g l =
    IsPassOf l.self.queue l.pass
    × (vec_len l.hands < pool_hands l.self)
    × StandsFor g.T.Numbered.number g.T.Numbered.home l.self (pool_hands l.self - vec_len l.hands) (view l.pass)
    × ((view l.pass).held ≡ [])
    × All (IsHandOf g.T.Numbered.number g.T.Numbered.home l.self) l.hands.items
    × All (λ h. hand_held h ≡ []) l.hands.items

abbrev pub decreases-loop-other : goal.decreases-loop-other
decreases-loop-other g l = goal.left-loop-other g l
