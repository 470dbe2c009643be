-- Inner: no contract of a top call is made of this file.
use Rattle.std.specs.Prelude.{◌≡◌, ℕ, ◌<◌, true, Some, List, slice_get}
use Rattle.zk_worker.specs.declared.steps.Spot.{Spot}
use Rattle.zk_worker.specs.declared.steps.Spot.TheVariants as spots
use Rattle.zk_trace.specs.declared.stood.Stood.{Stood}
use Rattle.zk_failures.specs.declared.part.Part.{Part}
use Rattle.zk_failures.specs.declared.part.Part.TheVariants as parts
use Rattle.zk_failures.specs.PlaceFailure.{same_part}

-- the part of a line that stands somewhere
abbrev pub part_of : Spot → Part
part_of (spots.Work place) = parts.Work
part_of (spots.Clock place) = parts.Clock
part_of (spots.Table place) = parts.Table
part_of (spots.Sem object place) = parts.Sem object
part_of (spots.Msgq object place) = parts.Msgq object
part_of (spots.Signal object place) = parts.Signal object
part_of (spots.Chan object place) = parts.Chan object
part_of (spots.Obs object place) = parts.Obs object
part_of (spots.LookItem item flags at) = parts.ItemLooks
part_of (spots.LookSignal object seen) = parts.SignalLooks object

-- between two lines of one part stands none of another
abbrev pub AreTogether : List Stood → Type 0
AreTogether lines =
    (first between last : ℕ) (a b c : Stood) → first < between → between < last →
    slice_get lines first ≡ Some a → slice_get lines between ≡ Some b → slice_get lines last ≡ Some c →
    same_part a.spot c.spot ≡ true → (same_part a.spot b.spot ≡ true) × (same_part b.spot c.spot ≡ true)

-- each line is of a player below this number
abbrev pub AreBelow : ℕ → List Stood → Type 0
AreBelow count lines = (place : ℕ) (line : Stood) → slice_get lines place ≡ Some line → line.player < count
