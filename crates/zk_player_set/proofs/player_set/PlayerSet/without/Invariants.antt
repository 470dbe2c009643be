use Rattle.std.proofs.Common.{◌≡◌, length}
use Rattle.zk_player_set.proofs.BitWords.{IsWithout}
use Rattle.zk_player_set.proofs.player_set.PlayerSet.without.Given as goal

abbrev pub invariant-loop-at : goal.invariant-loop-at
invariant-loop-at l = record { long : length l.words ≡ 4; so_far : IsWithout l.self.words l.others.words l.words l.at }
