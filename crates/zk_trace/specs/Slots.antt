-- Inner: no contract of a top call is made of this file.
use Rattle.std.specs.Prelude.{◌≡◌, ℕ, Bool, ◌==◌, zero, suc, Option, Some, None, List, [], ◌∷◌, ◌++◌, length, map}
use Rattle.std.specs.List.{filter, slice_get}
use Rattle.zk_worker.specs.declared.steps.Spot.{Spot}
use Rattle.zk_trace.specs.declared.stood.Stood.{Stood}
use Rattle.zk_trace.specs.Stood.{is_of}

-- what stands in a slot, where there is one and it isn't free
abbrev pub held : Option (Option Spot) → List Spot
held None = []
held (Some None) = []
held (Some (Some spot)) = spot ∷ []

-- what stands in the slot of a step
abbrev pub at_step : List (Option Spot) → ℕ → List Spot
at_step slots step = held (slice_get slots step)

-- what stands in the slot of a step of a player
abbrev pub at_player : List (List (Option Spot)) → ℕ → ℕ → List Spot
at_player [] player step = []
at_player (slots ∷ more) zero step = at_step slots step
at_player (slots ∷ more) (suc player) step = at_player more player step

-- whether a line has this step
abbrev pub has_step : ℕ → Stood → Bool
has_step step line = step == line.step

-- where the lines of a player with this step stand, in their order
abbrev pub stand_at : List Stood → ℕ → ℕ → List Spot
stand_at lines player step = map (λ line. line.spot) (filter (has_step step) (filter (is_of player) lines))

-- a line is put in its slot, which was free, and no other slot changes
pub record Puts (line : Stood) (old new : List (List (Option Spot))) : Type 0 where
  pub long : length new ≡ length old
  pub each : (player step : ℕ) → at_player new player step ≡ at_player old player step ++ stand_at (line ∷ []) player step

-- each of some lines stands in its slot, and nothing else in the slots of so many players
pub record HoldAll (lines : List Stood) (players : ℕ) (slots : List (List (Option Spot))) : Type 0 where
  pub long : length slots ≡ players
  pub each : (player step : ℕ) → at_player slots player step ≡ stand_at lines player step
