-- Inner: no contract of a top call is made of this file.
use Rattle.std.specs.Prelude.{ℕ, ◌≡◌, ◌<◌, ◌^◌, Bool, false, not, ◌==◌, nat_le, cond, Option, Some, None, option_map, List, [], ◌∷◌, length, find, All}
use Rattle.std.specs.List.{filter, list_any}
use Rattle.zk_base.specs.Order.{put_by, Ascends}
use Rattle.zk_time.specs.declared.timeout.Timeout.{Timeout}

-- what a contract sees of a timeout list: how many items there are, and which are armed, in the order in which they expire
pub record Timeouts : Type 0 where
  pub items : ℕ
  pub live : List Timeout

-- the timeout is the item's
abbrev pub is_of : ℕ → Timeout → Bool
is_of item t = t.item == item

-- the timeout has expired by this moment
abbrev pub is_due : ℕ → Timeout → Bool
is_due now t = nat_le t.deadline now

-- no item is armed
abbrev pub nothing_armed : ℕ → Timeouts
nothing_armed items = record { items = items; live = [] }

-- the item is armed
abbrev pub is_armed : Timeouts → ℕ → Bool
is_armed t item = list_any (is_of item) t.live

-- the deadline of the item, if it is armed
abbrev pub deadline_of : Timeouts → ℕ → Option ℕ
deadline_of t item = option_map (λ a. a.deadline) (find (is_of item) t.live)

-- the queue that the item is to be submitted to, if it is armed
abbrev pub queue_of : Timeouts → ℕ → Option ℕ
queue_of t item = option_map (λ a. a.queue) (find (is_of item) t.live)

-- how many have expired by this moment
abbrev pub count_due : Timeouts → ℕ → ℕ
count_due t now = length (filter (is_due now) t.live)

-- the item is armed, behind all whose deadline isn't later
abbrev pub arm : Timeouts → ℕ → ℕ → ℕ → Timeouts
arm t item queue deadline =
    record t { live = put_by (λ a. a.deadline) (record { item = item; queue = queue; deadline = deadline }) t.live }

-- the item isn't armed
abbrev pub disarm : Timeouts → ℕ → Timeouts
disarm t item = record t { live = filter (λ a. not (is_of item a)) t.live }

-- the first, where it has expired by this moment
abbrev pub due_first : ℕ → List Timeout → Option Timeout
due_first now [] = None
due_first now (t ∷ rest) = cond (is_due now t) (Some t) None

-- those behind the first, where it has expired by this moment, and else all
abbrev pub due_rest : ℕ → List Timeout → List Timeout
due_rest now [] = []
due_rest now (t ∷ rest) = cond (is_due now t) rest (t ∷ rest)

-- the first isn't armed, where it has expired by this moment
abbrev pub drop_due : Timeouts → ℕ → Timeouts
drop_due t now = record t { live = due_rest now t.live }

-- the timeout as a pair: its item and its queue
abbrev pub pair_of : Timeout → ℕ × ℕ
pair_of t = (t.item, t.queue)

-- no item is armed twice
abbrev pub Differ : List Timeout → Type 0
Differ [] = Unit {0}
Differ (t ∷ rest) = (list_any (is_of t.item) rest ≡ false) × Differ rest

-- what holds of every timeout list
pub record IsOrdered (t : Timeouts) : Type 0 where
  pub ascends : Ascends (λ a. a.deadline) t.live
  pub differ : Differ t.live
  pub within : All (λ a. a.item < t.items) t.live
  pub fits : All (λ a. a.deadline < 2 ^ 64) t.live
