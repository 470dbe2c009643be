-- Inner: no contract of a top call is made of this file.
use Rattle.std.specs.Prelude.{◌≡◌, ℕ, ◌<◌, ◌≤◌, Bool, true, Option, Some, List, length, map, slice_get, option_and_then}
use Rattle.std.specs.Option.{option_map_or}
use Rattle.zk_base.specs.declared.ids.Entry.{Entry}
use Rattle.zk_base.specs.declared.seen.Seen.{Seen}
use Rattle.zk_model_wait.specs.declared.signal.SignalOp.{SignalOp}
use Rattle.zk_model_wait.specs.declared.signal.SignalReply.{SignalReply}
use Rattle.zk_model_wait.specs.Signal.{value_at}
use Rattle.zk_trace.specs.declared.stood.Stood.{Stood}
use Rattle.zk_worker.specs.declared.log.Log.{Log}
use Rattle.zk_worker.specs.declared.steps.Spot.{Spot}
use Rattle.zk_worker.specs.declared.steps.Spot.TheVariants as spots
use Rattle.zk_worker.specs.Looks.{writes_of}
use Rattle.zk_failures.specs.LookOrder.{orders_of}

-- the writes to each signal, by object number
abbrev pub Writes : Type 0
Writes = List (List (Entry SignalOp SignalReply))

-- of each player, whether each of its steps stands in order
abbrev pub all_orders : List Log → List (List Bool)
all_orders logs = map (λ log. orders_of log.steps) logs

-- whether that of a line does
abbrev pub is_in_order : List (List Bool) → Stood → Bool
is_in_order orders line =
    option_map_or (λ order. order) (option_and_then (λ steps. slice_get steps line.step) (slice_get orders line.player)) true

-- a look at a signal found what it was
abbrev pub IsKnownAt : Writes → ℕ → Seen → Type 0
IsKnownAt signals object seen =
    (h : List (Entry SignalOp SignalReply)) × (slice_get signals object ≡ Some h)
    × (seen.stamp ≤ length h) × (value_at (writes_of h) seen.stamp ≡ seen)

-- a look stands in order, and one at a signal found what it was
abbrev pub FitsAt : Writes → Bool → Spot → Type 0
FitsAt signals ordered (spots.LookItem item flags at) = ordered ≡ true
FitsAt signals ordered (spots.LookSignal object seen) = (ordered ≡ true) × IsKnownAt signals object seen
FitsAt signals ordered spot = Unit {0}

-- that of a line
abbrev pub IsFit : Writes → List (List Bool) → Stood → Type 0
IsFit signals orders line = FitsAt signals (is_in_order orders line) line.spot

-- a line is fit, and isn't the one that missed what was there
pub record IsHeld (signals : Writes) (orders : List (List Bool)) (missed : Option ℕ) (place : ℕ) (line : Stood) : Type 0 where
  pub other : missed ≡ Some place → ⊥
  pub fit : IsFit signals orders line

-- so is each line
abbrev pub AreHeld : Writes → List (List Bool) → Option ℕ → List Stood → Type 0
AreHeld signals orders missed rows =
    (place : ℕ) (line : Stood) → slice_get rows place ≡ Some line → IsHeld signals orders missed place line

-- the first line that isn't
pub record IsFirstUnheld (signals : Writes) (orders : List (List Bool)) (missed : Option ℕ) (rows : List Stood) (place : ℕ) : Type 0 where
  pub line : Stood
  pub there : slice_get rows place ≡ Some line
  pub unheld : IsHeld signals orders missed place line → ⊥
  pub none_before : (earlier : ℕ) (other : Stood) → earlier < place → slice_get rows earlier ≡ Some other →
      IsHeld signals orders missed earlier other
