use Rattle.std.specs.Prelude.{◌≡◌, ◌⊎◌, ℕ, ◌<◌, ◌≤◌, ◌==◌, Bool, true, false, Some, List, length, map, slice_get}
use Rattle.std.specs.List.{filter, range_with_len}
use Rattle.zk_base.specs.Order.{by_key}
use Rattle.zk_scenario.specs.Content.{Content}
use Rattle.zk_scenario.specs.Players.{players}
use Rattle.zk_scenario.specs.Steps.{steps_of}
use Rattle.zk_worker.specs.declared.steps.Spot.{Spot}
use Rattle.zk_worker.specs.declared.steps.Spot.TheVariants as spots
use Rattle.zk_trace.specs.declared.stood.Stood.{Stood}
use Rattle.zk_trace.specs.declared.trace.Trace.{Trace}
use Rattle.zk_trace.specs.Stood.{stood, is_of}
use Rattle.zk_failures.specs.declared.site.Site.{Site}
use Rattle.zk_failures.specs.declared.site.Site.TheVariants.{Ending, Row, Player, Answer}
use Rattle.zk_failures.specs.First.{IsFirst, HoldsNowhere}

-- two lines are entries of one service, or looks at items, or looks at one signal
abbrev pub same_part : Spot → Spot → Bool
same_part (spots.Work place) (spots.Work other) = true
same_part (spots.Clock place) (spots.Clock other) = true
same_part (spots.Table place) (spots.Table other) = true
same_part (spots.Sem object place) (spots.Sem at other) = object == at
same_part (spots.Msgq object place) (spots.Msgq at other) = object == at
same_part (spots.Signal object place) (spots.Signal at other) = object == at
same_part (spots.Chan object place) (spots.Chan at other) = object == at
same_part (spots.Obs object place) (spots.Obs at other) = object == at
same_part (spots.LookItem item flags at) (spots.LookItem other found front) = true
same_part (spots.LookSignal object seen) (spots.LookSignal at found) = object == at
same_part spot other = false

-- a line of a player stands behind another of it that has the same step, or that is of the same part and has no lower step
abbrev pub IsBehind : Stood → Stood → Type 0
IsBehind earlier line =
    (earlier.player ≡ line.player)
    × ((earlier.step ≡ line.step) ⊎ ((same_part earlier.spot line.spot ≡ true) × (line.step ≤ earlier.step)))

-- the line at a place can't stand behind one of those before it
pub record IsMisplaced (lines : List Stood) (place : ℕ) : Type 0 where
  pub line : Stood
  pub there : slice_get lines place ≡ Some line
  pub before : ℕ
  pub earlier : Stood
  pub lower : before < place
  pub stands : slice_get lines before ≡ Some earlier
  pub behind : IsBehind earlier line

-- the numbers of a player's steps, the lowest first
abbrev pub step_numbers : List Stood → ℕ → List ℕ
step_numbers lines player = map (λ line. line.step) (by_key (λ line. line.step) (filter (is_of player) lines))

-- they are 0, 1, 2 and on
abbrev pub IsNumbered : List ℕ → Type 0
IsNumbered numbers = numbers ≡ range_with_len 0 (length numbers)

-- the steps of a player aren't 0, 1, 2 and on, or are more than it may make
pub record IsGapped (s : Content) (t : Trace) (player : ℕ) : Type 0 where
  pub one : player < length (players s.decls)
  pub gap : (IsNumbered (step_numbers (stood t) player) → ⊥) ⊎ (steps_of s < length (step_numbers (stood t) player))

-- the first line whose place is wrong: one that can't stand behind those before it, or, where there is none, that of the first
-- player whose steps aren't so
abbrev pub IsPlaceFailure : Content → Trace → Site → Type 0
IsPlaceFailure s t (Row place) = IsFirst (IsMisplaced (stood t)) place
IsPlaceFailure s t (Player player) = HoldsNowhere (IsMisplaced (stood t)) × IsFirst (IsGapped s t) player
IsPlaceFailure s t (Answer player place) = ⊥
IsPlaceFailure s t Ending = ⊥
