-- Inner: no contract of a top call is made of this file.
use Rattle.std.specs.Prelude.{◌≡◌, ℕ, ◌<◌, Some, length, slice_get}
use Rattle.zk_scenario.specs.Content.{Content}
use Rattle.zk_scenario.specs.Players.{players}
use Rattle.zk_worker.specs.declared.steps.Spot.{Spot}
use Rattle.zk_worker.specs.Machines.{machines_of}
use Rattle.zk_worker.specs.Places.{PlayerPlace}
use Rattle.zk_worker.specs.Shown.{shown_at}
use Rattle.zk_world.specs.Legal.{IsLegalShown}
use Rattle.zk_world.specs.Ready.{IsReady}
use Rattle.zk_world.specs.Requests.{AreFitting}
use Rattle.zk_world.specs.Tending.{IsAtWork}
use Rattle.zk_world.specs.World.{World}

-- each entry is of a player that is there
abbrev pub AreKnown : World → Type 0
AreKnown w = (spot : Spot) (number step : ℕ) → shown_at w.shown spot ≡ Some (number, step) →
    number < length w.players

-- what holds of every world that the players of a scenario come to, whatever they came from: of the first one, of one that
-- threads have left, and of each after a step
pub record IsSound (s : Content) (w : World) : Type 0 where
  -- each player can go on
  pub ready : IsReady s w
  -- they are those of the scenario
  pub as_many : length w.players ≡ length (players s.decls)
  -- each entry is of one of them
  pub known : AreKnown w
  -- the machine of each service lets its history stand
  pub legal : IsLegalShown (machines_of s) w.shown
  -- and what they asked and looked at is declared
  pub fitting : AreFitting s w
  -- each worker works at its queue
  pub works : (p : ℕ) (at : PlayerPlace) → slice_get w.players p ≡ Some at → IsAtWork s w.shown at
