use Rattle.std.proofs.Common.{◌≡◌}
use Rattle.crossbeam_queue.specs.Passes.{view, IsPassOf}
use Rattle.zk_pool.specs.Hands.{pool_items, undealt}
use Rattle.zk_pool.proofs.pool.Pool.grow.Given as goal

abbrev pub invariant-loop-made : goal.invariant-loop-made
invariant-loop-made g l =
    IsPassOf l.self.queue l.pass
    × (view l.pass ≡ undealt g.T.Numbered.number g.T.Numbered.home l.made (pool_items l.self))
