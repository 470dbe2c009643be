use Rattle.std.proofs.Common.{◌≡◌, map, take}
use Rattle.zk_worker.specs.Places.{PlayerPlace}
use Rattle.zk_kernel.proofs.opening.whos_of.Given as goal

-- who those so far are
abbrev pub invariant-loop-player : goal.invariant-loop-player
invariant-loop-player l = l.made.items ≡ map (λ (at : PlayerPlace). at.who) (take l.player-index l.players)
