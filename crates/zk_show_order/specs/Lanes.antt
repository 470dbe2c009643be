-- Inner: no contract of a top call is made of this file.
use Rattle.std.specs.Prelude.{◌≡◌, ℕ, ◌<◌, ◌≤◌, ◌==◌, List, [], ◌∷◌, length, map, count_by, All}
use Rattle.std.specs.List.{slice_index_or, range_with_len, flat_map, concat, AllAdjacentBelow}
use Rattle.std.specs.List.Sorted.{IsPermutation}
use Rattle.zk_trace.specs.declared.stood.Stood.{Stood}
use Rattle.zk_show_order.specs.declared.lanes.Queued.{Queued}
use Rattle.zk_show_order.specs.Order.{line_at}

-- the places of some queued lines
abbrev pub places_of : List Queued → List ℕ
places_of queued = map (λ q. q.place) queued

-- what is queued is a line of a player
pub record IsQueued (lines : List Stood) (number : ℕ) (q : Queued) : Type 0 where
  pub player : (line_at lines q.place).player ≡ number
  pub step : (line_at lines q.place).step ≡ q.step

-- the first so many lines are queued, each with its player
pub record AreQueued (lines : List Stood) (count : ℕ) (lists : List (List Queued)) : Type 0 where
  pub each : IsPermutation (range_with_len 0 count) (flat_map places_of lists)
  pub own : (player : ℕ) (d : List Queued) → player < length lists →
      All (IsQueued lines player) (slice_index_or lists player d)

-- the places of what is queued, by step, where no step stands twice
pub record IsSortedLane (queued : List Queued) (lane : List ℕ) : Type 0 where
  pub sorted : List Queued
  pub same : IsPermutation queued sorted
  pub rise : AllAdjacentBelow (λ a b. a.step < b.step) sorted (length sorted)
  pub places : lane ≡ places_of sorted

-- a step stands twice in what is queued
abbrev pub HasTwice : List Queued → Type 0
HasTwice queued = (step : ℕ) × (2 ≤ count_by (λ q. q.step == step) queued)

-- the places of lines of a player, each of a lower step than those behind it
abbrev pub IsLane : List Stood → ℕ → List ℕ → Type 0
IsLane lines player [] = Unit {0}
IsLane lines player (place ∷ more) =
    ((line_at lines place).player ≡ player)
    × All (λ other. (line_at lines place).step < (line_at lines other).step) more
    × IsLane lines player more

-- the places of all lines, in a lane for each player
pub record AreLanes (lines : List Stood) (lanes : List (List ℕ)) : Type 0 where
  pub each : IsPermutation (range_with_len 0 (length lines)) (concat lanes)
  pub own : (player : ℕ) (d : List ℕ) → player < length lanes → IsLane lines player (slice_index_or lanes player d)
