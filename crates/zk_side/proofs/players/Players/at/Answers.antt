use Rattle.std.proofs.Common.{sym, subst, replicate}
use Rattle.zk_side.specs.Kept.{AreCounted}
use Rattle.zk_side.proofs.Counted.{AreCounted-none}
use Rattle.zk_side.proofs.players.Players.at.Goals as goal

pub invariant_of-result : goal.invariant_of-result
invariant_of-result g c = subst (λ h. AreCounted h (replicate 64 0)) (sym c.requires) AreCounted-none
