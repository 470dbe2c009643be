-- Inner: no contract of a top call is made of this file.
use Rattle.std.specs.Prelude.{ℕ, ◌≡◌, ◌+◌, ◌-◌, ◌<◌, ◌≤◌, ◌^◌, Bool, ◌==◌, List, [], ◌∷◌, reverse, length, take, drop, slice_index_or, All}
use Rattle.std.specs.List.{sum_by}
use Rattle.zk_time.specs.declared.arm.Arm.{Arm}
use Rattle.zk_time.specs.declared.deltas.Place.{Place}
use Rattle.zk_time.specs.declared.timeout.Timeout.{Timeout}
use Rattle.zk_time.specs.Timeouts.{Timeouts, Differ}

-- the arm is the item's
abbrev pub is_arm_of : ℕ → Arm → Bool
is_arm_of item a = a.item == item

-- the deltas taken together
abbrev pub span : List Arm → ℕ
span arms = sum_by (λ a. a.delta) arms

-- what the arms say, the next to expire first, where the first delta counts from this moment
abbrev pub timeouts_after : ℕ → List Arm → List Timeout
timeouts_after moment [] = []
timeouts_after moment (a ∷ arms) =
    record { item = a.item; queue = a.queue; deadline = moment + a.delta } ∷ timeouts_after (moment + a.delta) arms

-- what the arms say that are kept latest first
abbrev pub live_of : List Arm → List Timeout
live_of arms = timeouts_after 0 (reverse arms)

-- the arms from the place on, the next to expire first
abbrev pub earlier : ℕ → List Arm → List Arm
earlier index arms = reverse (drop index arms)

-- the arms in front of the place, the next to expire first
abbrev pub later : ℕ → List Arm → List Arm
later index arms = reverse (take index arms)

-- the first delta is so much more
abbrev pub longer : ℕ → List Arm → List Arm
longer by [] = []
longer by (a ∷ arms) = record a { delta = a.delta + by } ∷ arms

-- the first delta is so much less
abbrev pub shorter : ℕ → List Arm → List Arm
shorter by [] = []
shorter by (a ∷ arms) = record a { delta = a.delta - by } ∷ arms

-- the place among arms that are kept latest first: those from it on expire by the deadline, those in front of it later
pub record IsPlace (arms : List Arm) (deadline : ℕ) (p : Place) : Type 0 where
  pub within : p.index ≤ length arms
  pub delta : span (drop p.index arms) + p.delta ≡ deadline
  pub next : (d : Arm) → 0 < p.index → p.delta < (slice_index_or arms (p.index - 1) d).delta

-- how the arms are seen, where there is room for so many
abbrev pub seen_of : ℕ → List Arm → Timeouts
seen_of items arms = record { items = items; live = live_of arms }

-- no deadline is too large, no item is armed twice, and there are only so many items
pub record IsKept (items : ℕ) (arms : List Arm) : Type 0 where
  pub fits : span arms < 2 ^ 64
  pub differ : Differ (live_of arms)
  pub within : All (λ a. a.item < items) (live_of arms)
