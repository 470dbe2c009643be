-- Inner: no contract of a top call is made of this file.
-- What holds of the machine's state after each legal history.
use Rattle.std.specs.Prelude.{◌≡◌, ℕ, ◌≤◌, Bool, ◌==◌, ◌&&◌, count_by, Option, None, All}
use Rattle.zk_model_trigger.specs.declared.ops.Cause.{Cause}
use Rattle.zk_model_trigger.specs.declared.parts.Arm.{Arm}
use Rattle.zk_model_trigger.specs.declared.parts.Armed.{Armed}
use Rattle.zk_model_trigger.specs.Arms.{is_waiting, is_fired, is_live, is_among, waiting, first_cause}
use Rattle.zk_model_trigger.specs.Machine.{Triggers}

-- an arm of the item
abbrev pub of_item : ℕ → Arm → Bool
of_item item a = a.item == item

-- one that waits
abbrev pub waits_of : ℕ → Armed → Bool
waits_of item a = a.arm.item == item && is_waiting a.life

-- one that has fired and isn't taken
abbrev pub fired_of : ℕ → Armed → Bool
fired_of item a = a.arm.item == item && is_fired a.life

-- one that does either
abbrev pub live_of : ℕ → Armed → Bool
live_of item a = a.arm.item == item && is_live a.life

-- an item has one live arm at most, and its fires are those of its arms that have fired
pub record IsSound (s : Triggers) : Type 0 where
  pub one : (item : ℕ) → count_by (live_of item) s.arms ≤ 1
  pub fired : (item : ℕ) → count_by (fired_of item) s.arms ≡ count_by (λ f. f.arm.item == item) s.fires

-- why an arm would fire in this state
abbrev pub cause_in : Triggers → Arm → Option Cause
cause_in s a = first_cause (is_among s.ready) s.now a

-- no arm that waits has a cause to fire
abbrev pub IsQuiet : Triggers → Type 0
IsQuiet s = All (λ a. cause_in s a ≡ None) (waiting s.arms)

-- both
pub record IsSteady (s : Triggers) : Type 0 where
  pub sound : IsSound s
  pub quiet : IsQuiet s
