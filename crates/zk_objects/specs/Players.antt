-- Inner: no contract of a top call is made of this file.
use Rattle.std.specs.Prelude.{ℕ, Bool, ◌==◌, ◌||◌, List}
use Rattle.std.specs.List.{list_any}
use Rattle.zk_player_set.specs.declared.player_set.PlayerSet.{PlayerSet}
use Rattle.zk_player_set.specs.Players.{has}

-- what a contract sees of the players that are marked: the set of those that a scenario can have, a list of those above, and how
-- many more of those it takes without memory
pub record Marked : Type 0 where
  pub within : PlayerSet
  pub above : List ℕ
  pub room : ℕ

-- the player is marked
abbrev pub is_marked : Marked → ℕ → Bool
is_marked m player = has m.within player || list_any (λ other. other == player) m.above
