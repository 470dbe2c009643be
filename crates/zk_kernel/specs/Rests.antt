-- Inner: no contract of a top call is made of this file.
-- What is left of a kernel after its callers.
use Rattle.std.specs.Prelude.{◌≡◌, ℕ, zero, suc, ◌+◌, true, Some, List, [], ◌∷◌, length, map, slice_get, slice_set, All}
use Rattle.zk_pool.specs.Counts.{tally}
use Rattle.zk_scenario.specs.Content.{Content}
use Rattle.zk_scenario.specs.Players.{players}
use Rattle.zk_services.specs.Memory.{closes}
use Rattle.zk_worker.specs.declared.playing.Stepped.{Stepped}
use Rattle.zk_worker.specs.Attempt.{Counts}
use Rattle.zk_worker.specs.Machines.{machines_of}
use Rattle.zk_worker.specs.Places.{PlayerPlace}
use Rattle.zk_worker.specs.Playing.{HasWanted, StepOutcome}
use Rattle.zk_world.specs.Sound.{IsSound}
use Rattle.zk_world.specs.World.{World}
use Rattle.zk_kernel.specs.declared.caller.Caller.{Caller}
use Rattle.zk_kernel.specs.Callers.{IsCaller, number_of, place_of, shown_to}
use Rattle.zk_cells.specs.Kernels.{Shared}
use Rattle.zk_cells.specs.Lasting.{Closes}

-- what is left: the scenario, what the services show, and where each player stands
pub record Left : Type 0 where
  pub scenario : Content
  pub world : World

-- so many numbers, from this one on
abbrev pub numbers_from : ℕ → ℕ → List ℕ
numbers_from first zero = []
numbers_from first (suc n) = first ∷ numbers_from (first + 1) n

-- these are all the callers that a kernel was made with, in any order: each number is that of one of them
pub record AreAllCallers (k : Shared) (callers : List Caller) : Type 0 where
  pub own : All (IsCaller k) callers
  pub all : length callers ≡ length (players k.scenario.decls)
  pub once : (n : ℕ) → tally n (map number_of callers) ≡ tally n (numbers_from 0 (length callers))

-- what a kernel leaves whose callers came to these ends: each player stands, at its number, where its caller left it. (What the
-- services show then is told by `IsSound`: of each player just its log, and no other entry)
pub record HasClosed (k : Shared) (callers : List Caller) (left : Left) : Type 0 where
  pub scenario : left.scenario ≡ k.scenario
  pub count : length left.world.players ≡ length callers
  pub players : All (λ c. slice_get left.world.players (number_of c) ≡ Some (place_of c)) callers
  -- each history goes on from what each caller has seen of it: by entries of others, which at signals stand where it had seen
  -- writes of nobody
  pub seen : All (λ c. Closes (number_of c) (shown_to c) left.world.shown) callers
  pub sound : IsSound left.scenario left.world

-- a player of what is left made a step, or none for the cause that is told; all other players stand as they stood
pub record HasGoneOn (old new : Left) (player : ℕ) (stepped : Stepped) : Type 0 where
  pub scenario : new.scenario ≡ old.scenario
  pub at : PlayerPlace
  pub at' : PlayerPlace
  pub there : slice_get old.world.players player ≡ Some at
  pub players : new.world.players ≡ slice_set old.world.players player at'
  pub counts : Counts
  pub counts' : Counts
  pub outcome : StepOutcome true (machines_of old.scenario) old.scenario at at' old.world.shown new.world.shown
      counts counts' stepped

-- a player of what is left wanted memory for one of its next attempts, and for none that wants none
pub record HasWantedThere (old : Left) (player : ℕ) : Type 0 where
  pub at : PlayerPlace
  pub there : slice_get old.world.players player ≡ Some at
  pub wanted : HasWanted closes (machines_of old.scenario) old.world.shown old.scenario at
