use Rattle.std.proofs.Common.{◌≡◌, ◌++◌, List, reverse, All, vec_capacity}
use Rattle.crossbeam_queue.specs.Passes.{view, IsPassOf}
use Rattle.zk_pool.specs.Hands.{home_in, undealt}
use Rattle.zk_pool.specs.Rule.{Suits}
use Rattle.zk_pool.proofs.opening.fill.Given as goal

abbrev pub invariant-loop-item : goal.invariant-loop-item
invariant-loop-item g l =
    IsPassOf l.queue l.pass
    × (vec_capacity l.items ≡ vec_capacity l.fn.items)
    × All (Suits g.T.Numbered.number g.T.Numbered.home g.T.Numbered.kept (home_in g.T.Numbered.home (reverse l.fn.items.items))) l.items.items
    × ((done : List g.row.T.Denot) × (done ++ reverse l.items.items ≡ reverse l.fn.items.items)
    × (view l.pass ≡ undealt g.T.Numbered.number g.T.Numbered.home 1 done))

abbrev pub decreases-loop-item : goal.decreases-loop-item
decreases-loop-item g l = goal.left-loop-item g l
