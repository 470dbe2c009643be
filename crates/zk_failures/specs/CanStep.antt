-- Inner: no contract of a top call is made of this file.
use Rattle.std.specs.Prelude.{◌≡◌, ℕ, Bool, true, false, None, Some, List, slice_get}
use Rattle.zk_scenario.specs.Content.{Content}
use Rattle.zk_scenario.specs.Steps.{steps_of}
use Rattle.zk_worker.specs.declared.steps.Step.{Step}
use Rattle.zk_worker.specs.Attempt.{is_in_range}
use Rattle.zk_worker.specs.Choosing.{chosen}
use Rattle.zk_worker.specs.Machines.{Machines}
use Rattle.zk_worker.specs.Places.{PlayerPlace}
use Rattle.zk_worker.specs.Protocol.{IsAhead}
use Rattle.zk_worker.specs.Shown.{Shown, ShowsLog}

-- a player's next attempts can be made where this is shown: they are in range, and of the player just its own steps are shown.
-- And the services have room for the steps that it may make
pub record CanTry (m : Machines) (s : Content) (shown : Shown) (at : PlayerPlace) : Type 0 where
  pub room : m.most ≡ steps_of s
  pub range : (step : Step) → IsAhead s at step → is_in_range m step ≡ true
  pub log : ShowsLog shown at.who.number at.spots

-- so it is of each of these players
abbrev pub EachCanTry : Machines → Content → Shown → List PlayerPlace → Type 0
EachCanTry m s shown players = (number : ℕ) (at : PlayerPlace) → slice_get players number ≡ Some at → CanTry m s shown at

-- a player can make none of its next attempts
abbrev pub IsHalted : Machines → Content → Shown → PlayerPlace → Type 0
IsHalted m s shown at = chosen m s shown at ≡ None

-- whether a player can make one of its next attempts
abbrev pub Steps : Machines → Content → Shown → PlayerPlace → Bool → Type 0
Steps m s shown at true = IsHalted m s shown at → ⊥
Steps m s shown at false = IsHalted m s shown at

-- one of these players can
pub record SomeSteps (m : Machines) (s : Content) (shown : Shown) (players : List PlayerPlace) : Type 0 where
  pub number : ℕ
  pub at : PlayerPlace
  pub there : slice_get players number ≡ Some at
  pub steps : IsHalted m s shown at → ⊥

-- whether none of these players can
abbrev pub NoneSteps : Machines → Content → Shown → List PlayerPlace → Bool → Type 0
NoneSteps m s shown players true = (number : ℕ) (at : PlayerPlace) → slice_get players number ≡ Some at → IsHalted m s shown at
NoneSteps m s shown players false = SomeSteps m s shown players
