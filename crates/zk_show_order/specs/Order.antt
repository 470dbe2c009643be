use Rattle.std.specs.Prelude.{◌≡◌, ℕ, ◌<◌, true, List, length, take, map, count_by, All, slice_index}
use Rattle.std.specs.List.{slice_index_or, range_with_len}
use Rattle.std.specs.List.Sorted.{IsPermutation}
use Rattle.zk_worker.specs.declared.steps.Spot.TheVariants as spots
use Rattle.zk_trace.specs.declared.stood.Stood.{Stood}
use Rattle.zk_show_order.specs.Services.{service_of, fits_below, is_entry_of}

-- the line at a place; where there is none, some line
abbrev pub line_at : List Stood → ℕ → Stood
line_at lines place = slice_index_or lines place (record { player = 0; step = 0; spot = spots.Work 0 })

-- the lines at some places
abbrev pub lines_at : List Stood → List ℕ → List Stood
lines_at lines places = map (line_at lines) places

-- a line can stand behind others
pub record Follows (others : List Stood) (line : Stood) : Type 0 where
  -- each step of its player among them is a lower one
  pub steps : All (λ other. other.player ≡ line.player → other.step < line.step) others
  -- among them are just the entries that stand above it in its service's history; of a look at least those that it shows
  pub history : fits_below line.spot (count_by (is_entry_of (service_of line.spot)) others) ≡ true

-- the lines at these places follow those before them
abbrev pub AllFollow : List Stood → List ℕ → Type 0
AllFollow lines order =
    (k : ℕ) → k < length order → Follows (lines_at lines (take k order)) (line_at lines (slice_index order k))

-- an order of some lines, by their places: each once, and each of them follows those before it
pub record IsOrder (lines : List Stood) (order : List ℕ) : Type 0 where
  pub each : IsPermutation (range_with_len 0 (length lines)) order
  pub follow : AllFollow lines order

-- there is no order of these lines
abbrev pub HasNoOrder : List Stood → Type 0
HasNoOrder lines = (order : List ℕ) → IsOrder lines order → ⊥
