use Rattle.std.specs.Prelude.{ℕ, ◌+◌, ◌-◌, ◌*◌, ◌^◌, ◌≤◌, Bool, true, false, not, nat_lt, ◌==◌, ◌&&◌, if◌then◌else◌, Option, Some, is_some, option_map, List, [], ◌∷◌, ◌++◌, length, map, slice_get}
use Rattle.std.specs.List.{filter, list_all}
use Rattle.zk_base.specs.declared.ids.Who.{Who}
use Rattle.zk_base.specs.Legal.{Machine}
use Rattle.zk_base.specs.Limits.{most_entries}
use Rattle.zk_model_trigger.specs.declared.ops.Cause.{Cause}
use Rattle.zk_model_trigger.specs.declared.ops.TriggerOp.{TriggerOp}
use Rattle.zk_model_trigger.specs.declared.ops.TriggerOp.TheVariants as ops
use Rattle.zk_model_trigger.specs.declared.ops.TriggerReply.{TriggerReply}
use Rattle.zk_model_trigger.specs.declared.ops.TriggerReply.TheVariants.{Armed, Busy, Done, Inval, Now}
use Rattle.zk_model_trigger.specs.declared.parts.Arm.{Arm}
use Rattle.zk_model_trigger.specs.declared.parts.Armed as armed
use Rattle.zk_model_trigger.specs.declared.parts.Fire.{Fire}
use Rattle.zk_model_trigger.specs.declared.parts.Occasion.{Occasion}
use Rattle.zk_model_trigger.specs.declared.parts.Occasion.TheVariants.{Posted, Reached}
use Rattle.zk_model_trigger.specs.declared.parts.Change.TheVariants as changes
use Rattle.zk_model_trigger.specs.Arms.{is_among, cause_by, chosen, has_live, has_waiting, first_cause, fire_of, told_fire, change_all, born, fires_with}

-- the state of triggers: the ticks so far, the number of entries so far, the events that are ready,
-- all arms that were made, in that order, and the fires that aren't taken, in the order of firing
pub record Triggers : Type 0 where
  pub now : ℕ
  pub entries : ℕ
  pub ready : List ℕ
  pub arms : List armed.Armed
  pub fires : List Fire

-- the state before the first entry
abbrev pub new_triggers : Triggers
new_triggers = record { now = 0; entries = 0; ready = []; arms = []; fires = [] }

-- there are fewer than 2^32 entries; each added fewer than 2^32 ticks, and one arm at most
pub record IsTimely (now entries arms : ℕ) : Type 0 where
  pub few : entries ≤ most_entries
  pub short : now ≤ entries * (2 ^ 32 - 1)
  pub made : arms ≤ entries

-- the ready events with one more
abbrev pub posted : List ℕ → ℕ → List ℕ
posted ready event = if is_among ready event then ready else ready ++ event ∷ []

-- the ready events without one
abbrev pub unposted : List ℕ → ℕ → List ℕ
unposted ready event = filter (λ e. not (e == event)) ready

-- the arm that is asked for, with the next number
abbrev pub asked : Triggers → ℕ → ℕ → List ℕ → Option ℕ → Arm
asked s item queue events ticks = record {
  number = length s.arms;
  item = item;
  queue = queue;
  events = events;
  deadline = option_map (λ t. s.now + t) ticks;
}

-- one arm more, which fires at once where there is a cause
abbrev pub armed_with : Triggers → Arm → Option Cause → Triggers
armed_with s a cause = record s {
  arms = s.arms ++ record { arm = a; life = born cause } ∷ [];
  fires = s.fires ++ fires_with a cause;
}

-- all arms that wait for it fire
abbrev pub fired : Triggers → Occasion → Triggers
fired s occasion = record s {
  arms = change_all (changes.Fire occasion) s.arms;
  fires = s.fires ++ map (fire_of (cause_by occasion)) (chosen occasion s.arms);
}

-- the first fire is taken
abbrev pub taken : Triggers → List Fire → Triggers
taken s [] = s
taken s (f ∷ rest) = record s { arms = change_all (changes.Take f.arm.item) s.arms; fires = rest }

-- the reply to each operation, where it is possible
abbrev pub trigger_reply : Triggers → Who → TriggerOp → Option TriggerReply
trigger_reply s who (ops.Arm item queue events ticks) =
    Some (if has_live s.arms item then Busy else Armed (length s.arms))
trigger_reply s who (ops.Post event) = Some Done
trigger_reply s who (ops.Unpost event) = Some Done
trigger_reply s who (ops.Tick ticks) = Some (Now (s.now + ticks))
trigger_reply s who (ops.Cancel item) = Some (if has_waiting s.arms item then Done else Inval)
trigger_reply s who ops.Next = option_map told_fire (slice_get s.fires 0)

-- what each operation changes, where it is possible
abbrev pub changed : Triggers → TriggerOp → Triggers
changed s (ops.Arm item queue events ticks) =
    let a = asked s item queue events ticks in
    if has_live s.arms item then s else armed_with s a (first_cause (is_among s.ready) s.now a)
changed s (ops.Post event) = fired (record s { ready = posted s.ready event }) (Posted event)
changed s (ops.Unpost event) = record s { ready = unposted s.ready event }
changed s (ops.Tick ticks) = fired (record s { now = s.now + ticks }) (Reached (s.now + ticks))
changed s (ops.Cancel item) = record s { arms = change_all (changes.Cancel item) s.arms }
changed s ops.Next = taken s s.fires

-- the state after an entry, which is counted
abbrev pub trigger_next : Triggers → Who → TriggerOp → Triggers
trigger_next s who op = let after = changed s op in record after { entries = s.entries + 1 }

-- the state after an operation with this reply: nothing changes where there is none
abbrev pub after_reply : Triggers → Who → TriggerOp → Option TriggerReply → Triggers
after_reply s who op reply = if is_some reply then trigger_next s who op else s

-- the operation may want memory: an arm, and what may fire arms
abbrev pub may_grow : TriggerOp → Bool
may_grow (ops.Arm item queue events ticks) = true
may_grow (ops.Post event) = true
may_grow (ops.Tick ticks) = true
may_grow _ = false

-- items are 0 to 255, queues 0 to 7, events 0 to 63, and an arm names one event at least; ticks are free
abbrev pub names_in_range : TriggerOp → Bool
names_in_range (ops.Arm item queue events ticks) =
    nat_lt item 256 && (nat_lt queue 8 && (nat_lt 0 (length events) && list_all (λ e. nat_lt e 64) events))
names_in_range (ops.Post event) = nat_lt event 64
names_in_range (ops.Unpost event) = nat_lt event 64
names_in_range (ops.Tick ticks) = true
names_in_range (ops.Cancel item) = nat_lt item 256
names_in_range ops.Next = true

-- what an operation names is in range in each state
abbrev pub in_range : Triggers → TriggerOp → Bool
in_range s op = names_in_range op

-- the machine of triggers
abbrev pub trigger_machine : Machine Triggers TriggerOp TriggerReply
trigger_machine = record { reply_of = trigger_reply; next = trigger_next; in_range = in_range }
