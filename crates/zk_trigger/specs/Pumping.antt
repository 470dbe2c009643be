-- Inner: no contract of a top call is made of this file.
-- The two calls that a pump makes.
use Rattle.std.specs.Prelude.{◌≡◌, ℕ, ◌+◌, ◌<◌, Bool, true, false, ◌==◌, ◌&&◌, Option, Some, None, Result, Ok, Err, List, [], ◌∷◌, length}
use Rattle.zk_base.specs.declared.ids.Who.{Who}
use Rattle.zk_base.specs.declared.ids.Entry.{Entry}
use Rattle.zk_base.specs.declared.errors.NoMemory.{NoMemory}
use Rattle.zk_model_trigger.specs.declared.ops.Cause.{Cause}
use Rattle.zk_model_trigger.specs.declared.ops.TriggerOp.{TriggerOp}
use Rattle.zk_model_trigger.specs.declared.ops.TriggerOp.TheVariants.{Next}
use Rattle.zk_model_trigger.specs.declared.ops.TriggerReply.{TriggerReply}
use Rattle.zk_model_trigger.specs.declared.ops.TriggerReply.TheVariants.{Fire}
use Rattle.zk_model_trigger.specs.Machine.{trigger_machine, new_triggers}
use Rattle.zk_model_work.specs.declared.ops.Submitted.{Submitted}
use Rattle.zk_model_work.specs.declared.ops.WorkOp.{WorkOp}
use Rattle.zk_model_work.specs.declared.ops.WorkOp.TheVariants.{Submit}
use Rattle.zk_model_work.specs.declared.ops.WorkReply.{WorkReply}
use Rattle.zk_model_work.specs.declared.ops.WorkReply.TheVariants.{Sub}
use Rattle.zk_model_work.specs.Machine.{work_machine}
use Rattle.zk_model_work.specs.State.{State}
use Rattle.zk_turn.specs.Calls.{IsEntered, IsImpossible}
use Rattle.zk_turn.specs.Players.{GoesOn}
use Rattle.zk_trigger.specs.declared.pump.Owed.{Owed}

-- the work service has the items and queues that an arm may name
abbrev pub is_wide : State → Bool
is_wide s = s.items == 256 && length s.queues == 8

-- a fire of this item, for this queue, was taken
pub record HasTaken (who : Who) (step : ℕ) (owed : Owed) (old new : List (Entry TriggerOp TriggerReply)) : Type 0 where
  pub number : ℕ
  pub cause : Cause
  pub place : ℕ
  pub entered : IsEntered trigger_machine new_triggers who step Next (Fire number owed.item owed.queue cause) place old new
  pub item : owed.item < 256
  pub queue : owed.queue < 8

-- the item was submitted to the queue
pub record HasSubmitted (start : State) (who : Who) (step : ℕ) (owed : Owed) (submitted : Submitted)
    (old new : List (Entry WorkOp WorkReply)) : Type 0 where
  pub place : ℕ
  pub entered : IsEntered work_machine start who step (Submit owed.item (Some owed.queue)) (Sub submitted) place old new

-- what the taking of the next fire answers, and what its pass has seen then
abbrev pub TakesFire : Who → ℕ → List (Entry TriggerOp TriggerReply) → List (Entry TriggerOp TriggerReply) →
    Result (Option Owed) NoMemory → Type 0
TakesFire who step old new (Ok (Some owed)) = HasTaken who step owed old new
TakesFire who step old new (Ok None) = IsImpossible trigger_machine new_triggers who step Next old new
TakesFire who step old new (Err e) = GoesOn (who ∷ []) old new

-- what a submission answers, and what its pass has seen then
abbrev pub Submits : State → Who → ℕ → Owed → List (Entry WorkOp WorkReply) → List (Entry WorkOp WorkReply) →
    Result Submitted NoMemory → Type 0
Submits start who step owed old new (Ok submitted) = HasSubmitted start who step owed submitted old new
Submits start who step owed old new (Err e) = GoesOn (who ∷ []) old new

-- how many entries they made
abbrev pub fires_made : Result (Option Owed) NoMemory → ℕ
fires_made (Ok (Some owed)) = 1
fires_made _ = 0

abbrev pub submissions_made : Result Submitted NoMemory → ℕ
submissions_made (Ok submitted) = 1
submissions_made (Err e) = 0

-- the number of the player's next step: an entry takes one
abbrev pub step_after_fire : ℕ → Result (Option Owed) NoMemory → ℕ
step_after_fire step (Ok (Some owed)) = step + 1
step_after_fire step _ = step

abbrev pub step_after_submission : ℕ → Result Submitted NoMemory → ℕ
step_after_submission step (Ok submitted) = step + 1
step_after_submission step (Err e) = step

-- the reply is a fire, and what it says
abbrev pub is_fire : TriggerReply → Bool
is_fire (Fire number item queue cause) = true
is_fire _ = false

abbrev pub owed_of : TriggerReply → Owed
owed_of (Fire number item queue cause) = record { item = item; queue = queue }
owed_of _ = record { item = 0; queue = 0 }

-- the answer is one to a submission, and what it says
abbrev pub is_submission : Option (WorkReply × ℕ) → Bool
is_submission (Some (Sub submitted, place)) = true
is_submission _ = false

abbrev pub made_with : Submitted → Option (WorkReply × ℕ) → Type 0
made_with submitted None = ⊥
made_with submitted (Some made) = made.0 ≡ Sub submitted
