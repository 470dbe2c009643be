use Rattle.std.proofs.Common.{length}
use Rattle.zk_pool.specs.Keepers.{Keeps}
use Rattle.zk_pool.proofs.keeper.Keeper.give_back.Given as goal

-- it keeps what it keeps still
abbrev pub invariant-loop-item : goal.invariant-loop-item
invariant-loop-item g l = Keeps g.T.Numbered.number g.T.Numbered.home g.T.Numbered.kept l.pool l.self

abbrev pub decreases-loop-item : goal.decreases-loop-item
decreases-loop-item g l = length l.self.aside.items
