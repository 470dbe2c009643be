use Rattle.std.specs.Prelude.{◌≡◌, ◌==◌, ℕ, ◌+◌, ◌<◌, ◌≤◌, if◌then◌else◌, Some, List, length, slice_get, take}
use Rattle.zk_base.specs.declared.ids.Entry.{Entry}
use Rattle.zk_model_wait.specs.declared.signal.SignalOp.{SignalOp}
use Rattle.zk_model_wait.specs.declared.signal.SignalReply.{SignalReply}
use Rattle.zk_worker.specs.declared.steps.Spot.{Spot}
use Rattle.zk_worker.specs.declared.steps.Spot.TheVariants as spots
use Rattle.zk_worker.specs.Looks.{looks_at, IsKnown}
use Rattle.zk_worker.specs.Machines.{Machines, flags_after}
use Rattle.zk_worker.specs.Shown.{Shown}

-- what a look found is right where this is shown: the flags after so many entries, and what is known of a signal at a stamp that
-- isn't above the number of its writes; other spots say nothing of looks
abbrev pub IsRight : Machines → Shown → Spot → Type 0
IsRight m shown (spots.LookItem object flags at) =
    (at ≤ length shown.work) × (flags_after m (take at shown.work) object ≡ Some flags)
IsRight m shown (spots.LookSignal object seen) =
    (h : List (Entry SignalOp SignalReply)) × (slice_get shown.signals object ≡ Some h)
    × (seen.stamp ≤ length h) × IsKnown (looks_at shown.looks object) h seen
IsRight m shown spot = Unit {0}

-- how many entries of the work service a step shows
abbrev pub work_front : Spot → ℕ
work_front (spots.Work place) = place + 1
work_front (spots.LookItem object flags at) = at
work_front spot = 0

-- the stamp that a step reads or writes at a signal
abbrev pub stamp_at : ℕ → Spot → ℕ
stamp_at object (spots.Signal at place) = if at == object then place + 1 else 0
stamp_at object (spots.LookSignal at seen) = if at == object then seen.stamp else 0
stamp_at object spot = 0

-- a step has seen nothing older than an earlier step of its player had, where it is a look or a write to what others look at
abbrev pub NotOlder : Spot → Spot → Type 0
NotOlder earlier (spots.LookItem object flags at) = work_front earlier ≤ at
NotOlder earlier (spots.LookSignal object seen) = stamp_at object earlier ≤ seen.stamp
NotOlder earlier (spots.Signal object place) = stamp_at object earlier ≤ place + 1
NotOlder earlier spot = Unit {0}

-- each look of a log is right, and none is older than what its player had seen
pub record LooksRight (m : Machines) (shown : Shown) (log : List Spot) : Type 0 where
  pub each : (step : ℕ) (spot : Spot) → slice_get log step ≡ Some spot → IsRight m shown spot
  pub in_order : (i j : ℕ) (a b : Spot) → i < j → slice_get log i ≡ Some a →
      slice_get log j ≡ Some b → NotOlder a b
