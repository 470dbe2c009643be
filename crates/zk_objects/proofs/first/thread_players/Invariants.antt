use Rattle.std.proofs.Common.{◌≡◌, ℕ, Some, length, slice_get}
use Rattle.zk_objects.proofs.Firsts.{IsThreadBelow}
use Rattle.zk_objects.proofs.first.thread_players.Given as goal

-- the threads so far are noted
abbrev pub invariant-loop-player : goal.invariant-loop-player
invariant-loop-player l =
    (length l.players.items ≡ l.objects)
    × ((object player : ℕ) → slice_get l.players.items object ≡ Some player → IsThreadBelow l.player l.threads object player)
