-- Inner: no contract of a top call is made of this file.
use Rattle.std.specs.Prelude.{ℕ, ◌≤◌, ◌==◌, if◌then◌else◌, Option, Some, None, List, [], ◌∷◌, ◌++◌, length, map, All}
use Rattle.std.specs.List.{range_with_len}
use Rattle.zk_base.specs.Limits.{most_players}
use Rattle.zk_worker.specs.declared.log.Log.{Log}
use Rattle.zk_worker.specs.declared.steps.Spot.{Spot}
use Rattle.zk_worker.specs.declared.steps.Spot.TheVariants as spots
use Rattle.zk_scenario.specs.declared.scenario.TheConstants.{MOST_STEPS}
use Rattle.zk_trace.specs.declared.looks.SignalLook.{SignalLook}

-- there are no more logs than players, and no log has more steps than a player may make
pub record AreShort (logs : List Log) : Type 0 where
  pub few : length logs ≤ most_players
  pub short : All (λ log. length log.steps ≤ MOST_STEPS) logs

-- the looks at each of so many objects, by object number
abbrev pub by_number : (ℕ → List SignalLook) → ℕ → List (List SignalLook)
by_number looks objects = map looks (range_with_len 0 objects)

-- one look more, at the object of this number
abbrev pub with_look : (ℕ → List SignalLook) → ℕ → SignalLook → ℕ → List SignalLook
with_look looks object look at = looks at ++ (if object == at then look ∷ [] else [])

-- the look at a signal that a player's step of a number is, with the signal's object number
abbrev pub named_look : ℕ → ℕ → Spot → Option (ℕ × SignalLook)
named_look player step (spots.LookSignal object seen) = Some (object, record { player = player; step = step; seen = seen })
named_look player step spot = None

-- the looks with it, if there is one
abbrev pub with_found : (ℕ → List SignalLook) → Option (ℕ × SignalLook) → ℕ → List SignalLook
with_found looks None = looks
with_found looks (Some found) = with_look looks found.0 found.1
