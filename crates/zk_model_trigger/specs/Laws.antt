-- Inner: no contract of a top call is made of this file.
use Rattle.std.specs.Prelude.{◌≡◌, ℕ, ◌+◌, ◌≤◌, ◌==◌, if◌then◌else◌, count_by, Option, Some, option_map, ◌∷◌, ◌++◌, slice_get}
use Rattle.std.specs.List.{list_any}
use Rattle.zk_base.specs.declared.ids.Who.{Who}
use Rattle.zk_model_trigger.specs.declared.ops.TriggerOp.{TriggerOp}
use Rattle.zk_model_trigger.specs.declared.ops.TriggerOp.TheVariants as ops
use Rattle.zk_model_trigger.specs.declared.ops.TriggerReply.{TriggerReply}
use Rattle.zk_model_trigger.specs.declared.ops.TriggerReply.TheVariants.{Armed, Busy, Done, Inval, Now}
use Rattle.zk_model_trigger.specs.Arms.{told_fire}
use Rattle.zk_model_trigger.specs.Machine.{trigger_reply}
use Rattle.zk_model_trigger.specs.Histories.{TriggerEntry, TriggerHistory, IsTriggerHistory, triggers_after, time_after, arms_in, is_busy, waiting_after, fires_of, taken_in, all_given_up}

-- The reply to an operation by the entries before it, and None where it isn't possible.
-- An arm is busy exactly where the item has one that was neither cancelled nor taken; its number counts the arms before it.
-- A tick tells all ticks with its own. A cancel is done exactly where an arm of the item waits.
-- As the k-th, a next takes the k-th fire, where there are so many.
abbrev pub told : TriggerHistory → TriggerOp → Option TriggerReply
told h (ops.Arm item queue events ticks) = Some (if is_busy h item then Busy else Armed (arms_in h))
told h (ops.Post event) = Some Done
told h (ops.Unpost event) = Some Done
told h (ops.Tick ticks) = Some (Now (time_after h + ticks))
told h (ops.Cancel item) = Some (if list_any (λ a. a.item == item) (waiting_after h) then Done else Inval)
told h ops.Next = option_map told_fire (slice_get (fires_of h) (taken_in h))

-- it holds of each history of triggers
abbrev pub OfEach : (TriggerHistory → Type 0) → Type 0
OfEach P = (h : TriggerHistory) → IsTriggerHistory h → P h

-- Each of what follows is said of one history.

-- after it each operation is possible exactly where the entries tell a reply, and has this reply
abbrev pub RepliesAreTold : TriggerHistory → Type 0
RepliesAreTold h = (who : Who) (op : TriggerOp) → trigger_reply (triggers_after h) who op ≡ told h op

-- each entry was answered what the entries before it tell
abbrev pub EachIsTold : TriggerHistory → Type 0
EachIsTold h = (front rest : TriggerHistory) (e : TriggerEntry) → h ≡ front ++ e ∷ rest → told front e.op ≡ Some e.reply

-- no two fires are of one arm
abbrev pub FiresOnce : TriggerHistory → Type 0
FiresOnce h = (number : ℕ) → count_by (λ f. f.arm.number == number) (fires_of h) ≤ 1

-- an arm fires once, or is given up once, or neither; never both
abbrev pub EndsOnce : TriggerHistory → Type 0
EndsOnce h = (number : ℕ) →
    count_by (λ f. f.arm.number == number) (fires_of h) + count_by (λ a. a.number == number) (all_given_up h) ≤ 1

-- the laws of triggers: replies are fixed by the entries before them, and an arm fires or is given up, once at most
pub record KeepsTriggerLaws (h : TriggerHistory) : Type 0 where
  pub possible : RepliesAreTold h
  pub told : EachIsTold h
  pub once : FiresOnce h
  pub ends : EndsOnce h
