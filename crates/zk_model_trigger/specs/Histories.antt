-- Inner: no contract of a top call is made of this file.
-- Words on histories of triggers: what the entries say, without the machine's state.
use Rattle.std.specs.Prelude.{ℕ, ◌+◌, Bool, true, false, not, ◌==◌, ◌&&◌, ◌||◌, if◌then◌else◌, count_by, sum_by, Option, Some, None, is_some, option_map, option_to_list, List, [], ◌∷◌, ◌++◌}
use Rattle.std.specs.List.{filter_map, list_any}
use Rattle.zk_base.specs.declared.ids.Entry.{Entry}
use Rattle.zk_base.specs.Legal.{state_after, IsLegal}
use Rattle.zk_base.specs.Order.{by_key}
use Rattle.zk_model_trigger.specs.declared.ops.Cause.{Cause}
use Rattle.zk_model_trigger.specs.declared.ops.TriggerOp.{TriggerOp}
use Rattle.zk_model_trigger.specs.declared.ops.TriggerOp.TheVariants as ops
use Rattle.zk_model_trigger.specs.declared.ops.TriggerReply.{TriggerReply}
use Rattle.zk_model_trigger.specs.declared.ops.TriggerReply.TheVariants.{Armed, Busy, Done, Inval, Now}
use Rattle.zk_model_trigger.specs.declared.ops.TriggerReply.TheVariants as replies
use Rattle.zk_model_trigger.specs.declared.parts.Arm.{Arm}
use Rattle.zk_model_trigger.specs.declared.parts.Fire.{Fire}
use Rattle.zk_model_trigger.specs.Arms.{deadline_of, first_cause, fire_of}
use Rattle.zk_model_trigger.specs.Machine.{Triggers, new_triggers, trigger_machine}

-- one entry of a history of triggers
abbrev pub TriggerEntry : Type 0
TriggerEntry = Entry TriggerOp TriggerReply

-- a history of triggers
abbrev pub TriggerHistory : Type 0
TriggerHistory = List TriggerEntry

-- a history that the machine lets stand from its first state on
abbrev pub IsTriggerHistory : TriggerHistory → Type 0
IsTriggerHistory h = IsLegal trigger_machine new_triggers h

-- the machine's state after a history
abbrev pub triggers_after : TriggerHistory → Triggers
triggers_after h = state_after trigger_machine new_triggers h

-- an entry begins it, and no later one ends it
abbrev pub stands : {A : Type 0} → (A → Bool) → (A → Bool) → List A → Bool
stands begins ends [] = false
stands begins ends (e ∷ es) = (begins e && not (list_any ends es)) || stands begins ends es

-- Ready events, and the time.

-- the operation makes this event ready
abbrev pub posts : ℕ → TriggerOp → Bool
posts event (ops.Post named) = named == event
posts event _ = false

-- the operation makes this event unready
abbrev pub unposts : ℕ → TriggerOp → Bool
unposts event (ops.Unpost named) = named == event
unposts event _ = false

-- the event is ready: posted, and not unposted since
abbrev pub event_ready : TriggerHistory → ℕ → Bool
event_ready h event = stands (λ e. posts event e.op) (λ e. unposts event e.op) h

-- the ticks that an operation lets pass
abbrev pub ticks_of : TriggerOp → ℕ
ticks_of (ops.Tick ticks) = ticks
ticks_of _ = 0

-- the time: all ticks that have passed
abbrev pub time_after : TriggerHistory → ℕ
time_after h = sum_by (λ e. ticks_of e.op) h

-- Arms, and what ends them.

-- the reply says that an arm was made
abbrev pub is_armed : TriggerReply → Bool
is_armed (Armed number) = true
is_armed _ = false

-- how many arms were made
abbrev pub arms_in : TriggerHistory → ℕ
arms_in h = count_by (λ e. is_armed e.reply) h

-- so answered, the operation has armed this item
abbrev pub arms_item : ℕ → TriggerOp → TriggerReply → Bool
arms_item item (ops.Arm named queue events ticks) (Armed number) = named == item
arms_item item _ _ = false

-- so answered, the operation has given up the arm of this item
abbrev pub cancels_item : ℕ → TriggerOp → TriggerReply → Bool
cancels_item item (ops.Cancel named) Done = item == named
cancels_item item _ _ = false

-- so answered, the operation has taken a fire of this item
abbrev pub takes_item : ℕ → TriggerOp → TriggerReply → Bool
takes_item item ops.Next (replies.Fire number named queue cause) = named == item
takes_item item _ _ = false

-- the item has an arm that was neither cancelled nor taken
abbrev pub is_busy : TriggerHistory → ℕ → Bool
is_busy h item = stands (λ e. arms_item item e.op e.reply)
    (λ e. cancels_item item e.op e.reply || takes_item item e.op e.reply) h

-- the arm that an entry makes after these, so answered: its number is how many were made before it
abbrev pub made_by : TriggerHistory → TriggerOp → TriggerReply → Option Arm
made_by front (ops.Arm item queue events ticks) (Armed number) = Some (record {
  number = arms_in front;
  item = item;
  queue = queue;
  events = events;
  deadline = option_map (λ t. time_after front + t) ticks;
})
made_by front _ _ = None

-- Fires.

-- why an arm would fire after these entries: the first of its events that is ready, else its deadline
abbrev pub cause_after : TriggerHistory → Arm → Option Cause
cause_after h a = first_cause (event_ready h) (time_after h) a

-- it has a cause to fire
abbrev pub has_cause : TriggerHistory → Arm → Bool
has_cause h a = is_some (cause_after h a)

-- an arm that was made by the last of these entries still waits after those that follow:
-- after none of them it had a cause to fire, and none of them gave it up
abbrev pub waits_on : Arm → TriggerHistory → TriggerHistory → Bool
waits_on a front [] = not (has_cause front a)
waits_on a front (e ∷ since) =
    not (has_cause front a) && (not (cancels_item a.item e.op e.reply) && waits_on a (front ++ e ∷ []) since)

-- the arm, if it still waits
abbrev pub if_waiting : Option Arm → TriggerHistory → TriggerHistory → List Arm
if_waiting None front since = []
if_waiting (Some a) front since = if waits_on a front since then a ∷ [] else []

-- of the arms that the later entries made, those that still wait, by number
abbrev pub waiting_from : TriggerHistory → TriggerHistory → List Arm
waiting_from front [] = []
waiting_from front (e ∷ since) =
    if_waiting (made_by front e.op e.reply) (front ++ e ∷ []) since ++ waiting_from (front ++ e ∷ []) since

-- the arms that wait after a history, by number
abbrev pub waiting_after : TriggerHistory → List Arm
waiting_after h = waiting_from [] h

-- the order in which an entry fires arms: a tick by deadline and then by number, any other by number
abbrev pub firing_order : TriggerOp → List Arm → List Arm
firing_order (ops.Tick ticks) arms = by_key deadline_of arms
firing_order _ arms = arms

-- the fire of an arm after these entries, if it has a cause
abbrev pub fire_after : TriggerHistory → Arm → Option Fire
fire_after h a = option_map (λ cause. fire_of cause a) (cause_after h a)

-- what an entry fires after these: of the arms that wait and the one that it makes, those that have a cause after it
abbrev pub fires_by : TriggerHistory → TriggerEntry → List Fire
fires_by front e = filter_map (fire_after (front ++ e ∷ []))
    (firing_order e.op (waiting_after front ++ option_to_list (made_by front e.op e.reply)))

-- what the later entries fire
abbrev pub fires_from : TriggerHistory → TriggerHistory → List Fire
fires_from front [] = []
fires_from front (e ∷ since) = fires_by front e ++ fires_from (front ++ e ∷ []) since

-- all fires, in their order
abbrev pub fires_of : TriggerHistory → List Fire
fires_of h = fires_from [] h

-- the operation takes a fire
abbrev pub is_next : TriggerOp → Bool
is_next ops.Next = true
is_next _ = false

-- how many fires were taken
abbrev pub taken_in : TriggerHistory → ℕ
taken_in h = count_by (λ e. is_next e.op) h

-- What is given up.

-- the newer of the item's two arms: the one that an entry makes, if it is the item's
abbrev pub newer : ℕ → Option Arm → Option Arm → Option Arm
newer item None last = last
newer item (Some a) last = if a.item == item then Some a else last

-- the last arm of the item that the later entries make, else this one
abbrev pub last_from : ℕ → Option Arm → TriggerHistory → TriggerHistory → Option Arm
last_from item last front [] = last
last_from item last front (e ∷ since) =
    last_from item (newer item (made_by front e.op e.reply) last) (front ++ e ∷ []) since

-- the last arm of the item
abbrev pub last_of : TriggerHistory → ℕ → Option Arm
last_of h item = last_from item None [] h

-- the arm that an operation gives up after these entries, so answered: the last one of its item
abbrev pub given_up : TriggerHistory → TriggerOp → TriggerReply → Option Arm
given_up front (ops.Cancel item) Done = last_of front item
given_up front _ _ = None

-- the arms that the later entries give up
abbrev pub given_up_from : TriggerHistory → TriggerHistory → List Arm
given_up_from front [] = []
given_up_from front (e ∷ since) =
    option_to_list (given_up front e.op e.reply) ++ given_up_from (front ++ e ∷ []) since

-- all arms that were given up, in their order
abbrev pub all_given_up : TriggerHistory → List Arm
all_given_up h = given_up_from [] h
