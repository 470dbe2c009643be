use Rattle.std.proofs.Common.{◌≡◌, ℕ, ltb, ◌&&◌}
use Rattle.zk_objects.specs.First.{declares_user}
use Rattle.zk_player_set.specs.Players.{has}
use Rattle.zk_objects.proofs.first.first_users.Given as goal

abbrev pub invariant-loop-player : goal.invariant-loop-player
invariant-loop-player l = (p : ℕ) → has l.users p ≡ (ltb p l.player && declares_user l.threads p)
