use Rattle.std.proofs.Common.{◌≡◌, ◌+◌, ◌-◌, ◌≤◌, All, vec_len, vec_capacity}
use Rattle.crossbeam_queue.specs.Passes.{view, IsPassOf}
use Rattle.zk_pool.specs.Hands.{IsNewHand, pool_hands, pool_home, pool_numbers}
use Rattle.zk_pool.specs.Views.{resting}
use Rattle.zk_pool.proofs.pool.Pool.deal_all.Given as goal

abbrev pub invariant-loop-next : goal.invariant-loop-next
invariant-loop-next g l =
    IsPassOf l.self.queue l.pass
    × (view l.pass ≡ resting (pool_hands l.self + 1 - l.next) (pool_hands l.self) (pool_numbers g.T.Numbered.number l.self)
    (pool_home g.T.Numbered.home l.self))
    × All (IsNewHand g.T.Numbered.number g.T.Numbered.home l.self) l.made.items
    × (vec_len l.made + 1 ≡ l.next)
    × (pool_hands l.self ≤ vec_capacity l.made)
