use Rattle.std.specs.Prelude.{ℕ, Bool, true, false, nat_le, ◌==◌, ◌&&◌, if◌then◌else◌, Option, Some, None, unwrap_or, List, [], ◌∷◌, map}
use Rattle.std.specs.List.{filter, find, list_any}
use Rattle.zk_base.specs.Order.{by_key}
use Rattle.zk_model_trigger.specs.declared.ops.Cause.{Cause}
use Rattle.zk_model_trigger.specs.declared.ops.Cause.TheVariants.{Event, Time}
use Rattle.zk_model_trigger.specs.declared.ops.TriggerReply.{TriggerReply}
use Rattle.zk_model_trigger.specs.declared.ops.TriggerReply.TheVariants as replies
use Rattle.zk_model_trigger.specs.declared.parts.Arm.{Arm}
use Rattle.zk_model_trigger.specs.declared.parts.Armed.{Armed}
use Rattle.zk_model_trigger.specs.declared.parts.Fire.{Fire}
use Rattle.zk_model_trigger.specs.declared.parts.Life.{Life}
use Rattle.zk_model_trigger.specs.declared.parts.Life.TheVariants.{Waiting, Fired, Taken, Cancelled}
use Rattle.zk_model_trigger.specs.declared.parts.Occasion.{Occasion}
use Rattle.zk_model_trigger.specs.declared.parts.Occasion.TheVariants.{Posted, Reached}
use Rattle.zk_model_trigger.specs.declared.parts.Change.{Change}
use Rattle.zk_model_trigger.specs.declared.parts.Change.TheVariants as changes

-- it waits
abbrev pub is_waiting : Life → Bool
is_waiting Waiting = true
is_waiting _ = false

-- it has fired, and isn't taken
abbrev pub is_fired : Life → Bool
is_fired (Fired cause) = true
is_fired _ = false

-- its item can't be armed again
abbrev pub is_live : Life → Bool
is_live Waiting = true
is_live (Fired cause) = true
is_live _ = false

-- the event is one of these
abbrev pub is_among : List ℕ → ℕ → Bool
is_among events event = list_any (λ e. e == event) events

-- there is a deadline, and it isn't above this time
abbrev pub is_reached : ℕ → Option ℕ → Bool
is_reached time None = false
is_reached time (Some deadline) = nat_le deadline time

-- the arm waits for this: it names the event that was posted, or the time has come to its deadline
abbrev pub meets : Occasion → Arm → Bool
meets (Posted event) a = is_among a.events event
meets (Reached time) a = is_reached time a.deadline

-- the cause of what it fires
abbrev pub cause_by : Occasion → Cause
cause_by (Posted event) = Event event
cause_by (Reached time) = Time

-- the time of its deadline; 0 where it has none
abbrev pub deadline_of : Arm → ℕ
deadline_of a = unwrap_or a.deadline 0

-- the order in which arms fire, of these by number: after a post so, at a time by deadline and then by number
abbrev pub in_order : Occasion → List Arm → List Arm
in_order (Posted event) arms = arms
in_order (Reached time) arms = by_key deadline_of arms

-- the arms that wait, by number
abbrev pub waiting : List Armed → List Arm
waiting arms = map (λ a. a.arm) (filter (λ a. is_waiting a.life) arms)

-- an arm that waits, and for this
abbrev pub passes : Occasion → Armed → Bool
passes occasion a = is_waiting a.life && meets occasion a.arm

-- those that wait for this, in the order in which they fire
abbrev pub chosen : Occasion → List Armed → List Arm
chosen occasion arms = in_order occasion (filter (meets occasion) (waiting arms))

-- the item has an arm that waits, or that has fired and isn't taken
abbrev pub has_live : List Armed → ℕ → Bool
has_live arms item = list_any (λ a. a.arm.item == item && is_live a.life) arms

-- the item has an arm that waits
abbrev pub has_waiting : List Armed → ℕ → Bool
has_waiting arms item = list_any (λ a. a.arm.item == item && is_waiting a.life) arms

-- the event that was found ready, else the deadline, if it is reached
abbrev pub found_cause : Option ℕ → Bool → Option Cause
found_cause (Some event) reached = Some (Event event)
found_cause None reached = if reached then Some Time else None

-- why an arm fires, at these ready events and this time: the first of its events that is ready, else its deadline
abbrev pub first_cause : (ℕ → Bool) → ℕ → Arm → Option Cause
first_cause ready now a = found_cause (find ready a.events) (is_reached now a.deadline)

-- the arm has fired with this cause
abbrev pub fire_of : Cause → Arm → Fire
fire_of cause a = record { arm = a; cause = cause }

-- what the taking of a fire is answered
abbrev pub told_fire : Fire → TriggerReply
told_fire f = replies.Fire f.arm.number f.arm.item f.arm.queue f.cause

-- the life of an arm after a change: of those that wait it fires who waits for this, a cancel gives the item's up,
-- and of those that have fired a take takes the item's
abbrev pub life_after : Change → Armed → Life
life_after (changes.Fire occasion) a = if passes occasion a then Fired (cause_by occasion) else a.life
life_after (changes.Cancel item) a = if a.arm.item == item && is_waiting a.life then Cancelled else a.life
life_after (changes.Take item) a = if a.arm.item == item && is_fired a.life then Taken else a.life

-- an arm after a change
abbrev pub change_one : Change → Armed → Armed
change_one change a = record a { life = life_after change a }

-- the arms after a change
abbrev pub change_all : Change → List Armed → List Armed
change_all change arms = map (change_one change) arms

-- the life of an arm that has this cause to fire at once
abbrev pub born : Option Cause → Life
born None = Waiting
born (Some cause) = Fired cause

-- the fire of an arm that has this cause
abbrev pub fires_with : Arm → Option Cause → List Fire
fires_with a None = []
fires_with a (Some cause) = fire_of cause a ∷ []
