-- Inner: no contract of a top call is made of this file.
use Rattle.std.specs.Prelude.{ℕ, ◌+◌, ◌-◌, ◌^◌, ◌≤◌, min, bit_and, bit_or, Bool, not, ◌==◌, ◌||◌, Option, Some, None, unwrap_or, List, [], ◌∷◌, ◌++◌}
use Rattle.std.specs.List.{filter, list_any}
use Rattle.zk_base.specs.Order.{put_by, by_key}
use Rattle.zk_model_trigger.specs.declared.ops.Cause.{Cause}
use Rattle.zk_model_trigger.specs.declared.ops.TriggerReply.{TriggerReply}
use Rattle.zk_model_trigger.specs.declared.ops.TriggerReply.TheVariants as replies
use Rattle.zk_model_trigger.specs.declared.parts.Arm.{Arm}
use Rattle.zk_model_trigger.specs.declared.parts.Fire.{Fire}
use Rattle.zk_model_trigger.specs.declared.parts.Occasion.{Occasion}
use Rattle.zk_model_trigger.specs.declared.parts.Occasion.TheVariants.{Posted, Reached}
use Rattle.zk_model_trigger.specs.Arms.{is_reached}
use Rattle.zk_trigger.specs.declared.live.LiveArm.{LiveArm}
use Rattle.zk_trigger.specs.declared.live.LiveFire.{LiveFire}
use Rattle.zk_trigger.specs.declared.live.Sought.{Sought}
use Rattle.zk_trigger.specs.declared.live.Sought.TheVariants.{Events, Until}

-- what a contract sees of live arms: those that wait, by number, the fires that aren't taken, in the order of firing,
-- and how many arms more fit without memory
pub record LiveView : Type 0 where
  pub waiting : List LiveArm
  pub fires : List LiveFire
  pub room : ℕ

-- what waits has its room where it is put in order, and among the fires
pub record HasRoom (waiting found fires capacity : ℕ) : Type 0 where
  pub sorted : waiting ≤ found
  pub fired : fires + waiting ≤ capacity

-- how many arms more fit beside so many that wait, by the capacities of the three lists and the number of fires
abbrev pub room_for : ℕ → ℕ → ℕ → ℕ → ℕ → ℕ
room_for waiting capacity found fires more = min (capacity - waiting) (min (found - waiting) (more - (fires + waiting)))

-- the word with the bits of these events
abbrev pub word_from : ℕ → List ℕ → ℕ
word_from word [] = word
word_from word (e ∷ es) = word_from (bit_or word (2 ^ e)) es

-- events as a word: event e is the bit e
abbrev pub word_of : List ℕ → ℕ
word_of events = word_from 0 events

-- the arm is sought
abbrev pub meets_sought : Sought → LiveArm → Bool
meets_sought (Events mask) a = not (bit_and a.events mask == 0)
meets_sought (Until time) a = is_reached time a.deadline

-- the time of its deadline; 0 where it has none
abbrev pub deadline_time : LiveArm → ℕ
deadline_time a = unwrap_or a.deadline 0

-- one arm more, where it fires in order
abbrev pub put_sought : Sought → LiveArm → List LiveArm → List LiveArm
put_sought (Events mask) a arms = arms ++ a ∷ []
put_sought (Until time) a arms = put_by deadline_time a arms

-- arms in the order in which they fire
abbrev pub sought_order : Sought → List LiveArm → List LiveArm
sought_order (Events mask) arms = arms
sought_order (Until time) arms = by_key deadline_time arms

-- those that are sought, in the order in which they fire
abbrev pub all_sought : Sought → List LiveArm → List LiveArm
all_sought sought arms = sought_order sought (filter (meets_sought sought) arms)

-- the arm has fired with this cause
abbrev pub fire_live : Cause → LiveArm → LiveFire
fire_live cause a = record { arm = a; cause = cause }

-- the arm is the item's
abbrev pub is_arm_of : ℕ → LiveArm → Bool
is_arm_of item a = a.item == item

-- the fire is the item's
abbrev pub is_fire_of : ℕ → LiveFire → Bool
is_fire_of item f = f.arm.item == item

-- the item has an arm that waits, or a fire that isn't taken
abbrev pub has_item : List LiveArm → List LiveFire → ℕ → Bool
has_item waiting fires item = list_any (is_arm_of item) waiting || list_any (is_fire_of item) fires

-- an arm that has this cause to fire at once waits where there is none
abbrev pub waits_with : LiveArm → Option Cause → List LiveArm
waits_with a None = a ∷ []
waits_with a (Some cause) = []

-- and fires where there is one
abbrev pub fires_with : LiveArm → Option Cause → List LiveFire
fires_with a None = []
fires_with a (Some cause) = fire_live cause a ∷ []

-- what the taking of a fire is answered
abbrev pub told_live : LiveFire → TriggerReply
told_live f = replies.Fire f.arm.number f.arm.item f.arm.queue f.cause

-- an arm of the machine, as it is kept
abbrev pub kept : Arm → LiveArm
kept a = record { number = a.number; item = a.item; queue = a.queue; events = word_of a.events; deadline = a.deadline }

-- a fire of the machine, as it is kept
abbrev pub kept_fire : Fire → LiveFire
kept_fire f = record { arm = kept f.arm; cause = f.cause }

-- what is sought at an occasion
abbrev pub sought_by : Occasion → Sought
sought_by (Posted event) = Events (2 ^ event)
sought_by (Reached time) = Until time
