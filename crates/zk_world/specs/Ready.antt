-- Inner: no contract of a top call is made of this file.
use Rattle.std.specs.Prelude.{◌≡◌, ℕ, ◌+◌, ◌*◌, ◌-◌, ◌≤◌, Some, None, List, length, slice_get, All}
use Rattle.std.specs.List.{sum_by}
use Rattle.zk_base.specs.Limits.{most_players}
use Rattle.zk_scenario.specs.Content.{Content}
use Rattle.zk_scenario.specs.Steps.{steps_of}
use Rattle.zk_scenario.specs.Valid.{IsValid}
use Rattle.zk_scenario.specs.declared.scenario.TheConstants.{MOST_STEPS}
use Rattle.zk_worker.specs.Places.{PlayerPlace}
use Rattle.zk_worker.specs.Follows.{IsFollowing}
use Rattle.zk_worker.specs.Ranges.{IsFit}
use Rattle.zk_worker.specs.Machines.{machines_of}
use Rattle.zk_worker.specs.Shown.{ShowsLog}
use Rattle.zk_worker.specs.Right.{LooksRight}
use Rattle.zk_world.specs.Within.{AreWithin}
use Rattle.zk_world.specs.World.{World}

-- how many steps of the player are left
abbrev pub left : Content → PlayerPlace → ℕ
left s at = steps_of s - length at.spots

-- how many steps of all players are left
abbrev pub all_left : Content → List PlayerPlace → ℕ
all_left s players = sum_by (left s) players

-- how many steps all players have made
abbrev pub all_made : List PlayerPlace → ℕ
all_made players = sum_by (λ at. length at.spots) players

-- no history is longer than what all players may make and have made together: so there is room for each step that is left,
-- at whatever history the players began
abbrev pub most_shown : List PlayerPlace → ℕ
most_shown players = MOST_STEPS * length players + all_made players

-- players that stand by number on services of their own can go on: each has its log shown and follows its script
pub record IsReady (s : Content) (w : World) : Type 0 where
  pub valid : IsValid s
  pub few : length w.players ≤ most_players
  pub numbers : (p : ℕ) (at : PlayerPlace) → slice_get w.players p ≡ Some at → at.who.number ≡ p
  pub shows : (p : ℕ) (at : PlayerPlace) → slice_get w.players p ≡ Some at →
      ShowsLog w.shown at.who.number at.spots
  pub looks : (p : ℕ) (at : PlayerPlace) → slice_get w.players p ≡ Some at →
      LooksRight (machines_of s) w.shown at.spots
  pub short : All (λ at. length at.spots ≤ steps_of s) w.players
  pub within : AreWithin w.shown (most_shown w.players)
  pub whole : w.shown.looks ≡ None
  pub unlooked : w.shown.looked ≡ None
  pub follow : (p : ℕ) (at : PlayerPlace) → slice_get w.players p ≡ Some at → IsFollowing s p w.shown at
  pub fits : All (IsFit s) w.players
