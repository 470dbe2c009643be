use Rattle.std.specs.Prelude.{ℕ, ◌+◌, Bool, true, false, not, nat_le, ◌==◌, ◌&&◌, cond, Option, is_some, option_map, List, length, reverse, filter, find, position, slice_get}
use Rattle.std.specs.List.{list_any, list_all}
use Rattle.std.specs.Option.{option_map_or}
use Rattle.zk_base.specs.Order.{by_key}
use Rattle.zk_model_work.specs.declared.parts.Life.{Life}
use Rattle.zk_model_work.specs.declared.parts.Life.TheVariants.{Waiting, Running, Ended}
use Rattle.zk_model_work.specs.declared.parts.Admission.{Admission}
use Rattle.zk_model_work.specs.declared.parts.Fate.{Fate}
use Rattle.zk_model_work.specs.declared.parts.Fate.TheVariants.{Live}
use Rattle.zk_model_work.specs.declared.parts.Arm.{Arm}
use Rattle.zk_model_work.specs.declared.parts.Awaited.{Awaited}
use Rattle.zk_model_work.specs.declared.parts.Awaited.TheVariants.{Flush}
use Rattle.zk_model_work.specs.declared.parts.Wait.{Wait}
use Rattle.zk_model_work.specs.declared.parts.Item.{Item}
use Rattle.zk_model_work.specs.Lists.{places}

-- it stands in a line
abbrev pub is_waiting : Life → Bool
is_waiting Waiting = true
is_waiting _ = false

-- a worker is at it
abbrev pub is_running : Life → Bool
is_running Running = true
is_running _ = false

-- it waits or runs
abbrev pub is_open : Life → Bool
is_open Waiting = true
is_open Running = true
is_open _ = false

-- its run is over
abbrev pub is_ended : Life → Bool
is_ended Ended = true
is_ended _ = false

-- it is still to expire
abbrev pub is_live : Fate → Bool
is_live Live = true
is_live _ = false

-- it is a waiting admission of the item
abbrev pub waits_as : ℕ → Admission → Bool
waits_as item a = (a.item == item) && is_waiting a.life

-- it is a running admission of the item
abbrev pub runs_as : ℕ → Admission → Bool
runs_as item a = (a.item == item) && is_running a.life

-- it is a waiting or running admission of the item
abbrev pub is_open_as : ℕ → Admission → Bool
is_open_as item a = (a.item == item) && is_open a.life

-- it waits for the queue
abbrev pub waits_for : ℕ → Admission → Bool
waits_for queue a = (a.queue == queue) && is_waiting a.life

-- the queue runs it
abbrev pub runs_on : ℕ → Admission → Bool
runs_on queue a = (a.queue == queue) && is_running a.life

-- it waits for the queue, or the queue runs it
abbrev pub is_open_at : ℕ → Admission → Bool
is_open_at queue a = (a.queue == queue) && is_open a.life

-- it is a live arm of the item
abbrev pub arms_item : ℕ → Arm → Bool
arms_item item a = (a.item == item) && is_live a.fate

-- the number of the item's waiting admission
abbrev pub waiting : List Admission → ℕ → Option ℕ
waiting admissions item = position (waits_as item) admissions

-- the number of the item's running admission
abbrev pub running : List Admission → ℕ → Option ℕ
running admissions item = position (runs_as item) admissions

-- the queue that runs the item
abbrev pub running_queue : List Admission → ℕ → Option ℕ
running_queue admissions item = option_map (λ a. a.queue) (find (runs_as item) admissions)

-- the queue of the item's last admission
abbrev pub last_queue : List Admission → ℕ → Option ℕ
last_queue admissions item = option_map (λ a. a.queue) (find (λ a. a.item == item) (reverse admissions))

-- the numbers of the admissions that wait for the queue, lowest first
abbrev pub line : List Admission → ℕ → List ℕ
line admissions queue = places (waits_for queue) admissions

-- the number of the admission that the queue runs
abbrev pub run : List Admission → ℕ → Option ℕ
run admissions queue = position (runs_on queue) admissions

-- no admission to the queue waits or runs
abbrev pub is_empty_and_idle : List Admission → ℕ → Bool
is_empty_and_idle admissions queue = list_all (λ a. not (is_open_at queue a)) admissions

-- the admission of this number is there and passes
abbrev pub passes_at : (Admission → Bool) → List Admission → ℕ → Bool
passes_at passes admissions number = option_map_or passes (slice_get admissions number) false

-- a marked admission of the item is running
abbrev pub is_cancelling : List Admission → List ℕ → ℕ → Bool
is_cancelling admissions marks item = list_any (passes_at (runs_as item) admissions) marks

-- the place of the item's live arm
abbrev pub armed : List Arm → ℕ → Option ℕ
armed arms item = position (arms_item item) arms

-- the item's live arm
abbrev pub live_arm : List Arm → ℕ → Option Arm
live_arm arms item = find (arms_item item) arms

-- the arm is to expire by this time
abbrev pub is_due : ℕ → Arm → Bool
is_due time a = is_live a.fate && nat_le a.deadline time

-- the arms that are to expire by this time, by deadline and, at one deadline, in the order of arming
abbrev pub due : ℕ → List Arm → List Arm
due time arms = by_key (λ a. a.deadline) (filter (is_due time) arms)

-- the deadline of the item's live arm
abbrev pub deadline_of : List Arm → ℕ → Option ℕ
deadline_of arms item = option_map (λ a. a.deadline) (live_arm arms item)

-- the wait is a flush that names an admission of the item which waits or runs
abbrev pub flushes : List Admission → ℕ → Awaited → Bool
flushes admissions item (Flush number) = passes_at (is_open_as item) admissions number
flushes admissions item _ = false

-- a flush names an admission of the item that waits or runs
abbrev pub is_flushing : List Admission → List Wait → ℕ → Bool
is_flushing admissions waits item = list_any (λ w. flushes admissions item w.awaited) waits

-- the weight of a flag, where it is set
abbrev pub weight : ℕ → Bool → ℕ
weight n set = cond set n 0

-- busy flags together: 1 an admission runs, 2 it is being cancelled, 4 one waits, 8 armed, 16 being flushed
abbrev pub busy_flags : Bool → Bool → Bool → Bool → Bool → ℕ
busy_flags running cancelling queued armed flushing =
    weight 1 running + weight 2 cancelling + weight 4 queued + weight 8 armed + weight 16 flushing

-- what the answers ask of an item
abbrev pub item_of : List Admission → List ℕ → ℕ → Item
item_of admissions marks item = record {
  cancelling = is_cancelling admissions marks item;
  queued = is_some (waiting admissions item);
  running = is_some (running admissions item);
  home = running_queue admissions item;
  last = last_queue admissions item;
  next = length admissions;
}
