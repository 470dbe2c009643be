-- Inner: no contract of a top call is made of this file.
use Rattle.std.specs.Prelude.{◌≡◌, ℕ, ◌+◌, ◌<◌, max, min, nat_le, ◌==◌, Bool, true, ◌&&◌, if◌then◌else◌, Option, Some, None, List, [], ◌∷◌, ◌++◌, length, get_or}
use Rattle.zk_base.specs.Limits.{most_entries}
use Rattle.zk_worker.specs.declared.steps.Spot.{Spot}
use Rattle.zk_worker.specs.declared.steps.Spot.TheVariants as spots
use Rattle.zk_worker.specs.Right.{work_front, stamp_at}
use Rattle.zk_failures.specs.declared.look_order.Floor.{Floor}

-- an entry of work or a write has a place that its history can have, and a signal is one of so many objects
abbrev pub IsWithin : ℕ → Spot → Type 0
IsWithin objects (spots.Work place) = place < most_entries
IsWithin objects (spots.Signal object place) = (object < objects) × (place < most_entries)
IsWithin objects (spots.LookSignal object seen) = object < objects
IsWithin objects spot = Unit {0}

-- the most that one of these measures
abbrev pub most_of : (Spot → ℕ) → List Spot → ℕ
most_of size [] = 0
most_of size (spot ∷ more) = max (size spot) (most_of size more)

-- the signal that a step reads or writes, if it does, with the stamp
abbrev pub named_stamp : Spot → Option (ℕ × ℕ)
named_stamp (spots.Signal object place) = Some (object, place + 1)
named_stamp (spots.LookSignal object seen) = Some (object, seen.stamp)
named_stamp spot = None

-- this is what a player has seen in these steps
pub record IsFloor (floor : Floor) (earlier : List Spot) : Type 0 where
  pub front : floor.front ≡ most_of work_front earlier
  pub stamps : (object : ℕ) → object < length floor.stamps.items →
      get_or floor.stamps.items object 0 ≡ most_of (stamp_at object) earlier

-- a look has seen nothing older than these earlier steps had
abbrev pub is_late : List Spot → Spot → Bool
is_late earlier (spots.LookItem object flags at) = nat_le (most_of work_front earlier) at
is_late earlier (spots.LookSignal object seen) = nat_le (most_of (stamp_at object) earlier) seen.stamp
is_late earlier spot = true

-- the place of a step's write to a signal, if it is one
abbrev pub write_place : ℕ → Spot → Option ℕ
write_place object (spots.Signal at place) = if at == object then Some place else None
write_place object spot = None

-- the lower of two places, where there are both
abbrev pub lower_of : Option ℕ → Option ℕ → Option ℕ
lower_of None other = other
lower_of (Some place) None = Some place
lower_of (Some place) (Some other) = Some (min place other)

-- the lowest place of the writes to a signal, if there are any
abbrev pub lowest_write : ℕ → List Spot → Option ℕ
lowest_write object [] = None
lowest_write object (spot ∷ later) = lower_of (write_place object spot) (lowest_write object later)

-- these are the lowest places of the writes to each signal
abbrev pub IsCeiling : List (Option ℕ) → List Spot → Type 0
IsCeiling places later = (object : ℕ) → object < length places → get_or places object None ≡ lowest_write object later

-- a stamp isn't above that of the write at a place, where there is one
abbrev pub is_up_to : ℕ → Option ℕ → Bool
is_up_to stamp None = true
is_up_to stamp (Some place) = nat_le stamp (place + 1)

-- a look has seen nothing newer than what these later steps wrote
abbrev pub is_early : List Spot → Spot → Bool
is_early later (spots.LookSignal object seen) = is_up_to seen.stamp (lowest_write object later)
is_early later spot = true

-- whether that is so of each step
abbrev pub earlies_of : List Spot → List Bool
earlies_of [] = []
earlies_of (spot ∷ later) = is_early later spot ∷ earlies_of later

-- whether each step has seen nothing older than the earlier ones, and nothing newer than what the later ones wrote
abbrev pub orders_from : List Spot → List Spot → List Bool
orders_from earlier [] = []
orders_from earlier (spot ∷ later) =
    (is_late earlier spot && is_early later spot) ∷ orders_from (earlier ++ spot ∷ []) later

-- that of all steps of a player
abbrev pub orders_of : List Spot → List Bool
orders_of steps = orders_from [] steps
