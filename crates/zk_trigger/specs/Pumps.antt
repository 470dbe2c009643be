-- Inner: no contract of a top call is made of this file.
-- What a contract sees of a pump.
use Rattle.std.specs.Prelude.{◌≡◌, ℕ, ◌+◌, ◌*◌, ◌<◌, ◌≤◌, ◌⊎◌, Option, Some, None, IfSome, option_map, option_to_list, Result, Ok, Err, List, [], ◌∷◌, ◌++◌}
use Rattle.std.specs.List.{filter_map}
use Rattle.zk_base.specs.declared.ids.Who.{Who}
use Rattle.zk_base.specs.declared.ids.Entry.{Entry}
use Rattle.zk_base.specs.declared.errors.NoMemory.{NoMemory}
use Rattle.zk_base.specs.History.{IsAbove}
use Rattle.zk_base.specs.Legal.{IsLegal}
use Rattle.zk_model_trigger.specs.declared.ops.TriggerOp.{TriggerOp}
use Rattle.zk_model_trigger.specs.declared.ops.TriggerOp.TheVariants.{Next}
use Rattle.zk_model_trigger.specs.declared.ops.TriggerReply.{TriggerReply}
use Rattle.zk_model_trigger.specs.declared.ops.TriggerReply.TheVariants.{Fire}
use Rattle.zk_model_trigger.specs.Machine.{Triggers, trigger_machine, new_triggers}
use Rattle.zk_model_work.specs.declared.ops.Submitted.{Submitted}
use Rattle.zk_model_work.specs.declared.ops.WorkOp.{WorkOp}
use Rattle.zk_model_work.specs.declared.ops.WorkOp.TheVariants.{Submit}
use Rattle.zk_model_work.specs.declared.ops.WorkReply.{WorkReply}
use Rattle.zk_model_work.specs.Machine.{work_machine}
use Rattle.zk_model_work.specs.State.{State}
use Rattle.zk_turn.specs.declared.cell.Cell.{Cell}
use Rattle.zk_turn.specs.declared.pass.Pass.{Pass}
use Rattle.zk_turn.specs.Calls.{IsImpossible}
use Rattle.zk_turn.specs.Passes.{IsPassOf, pass_players, pass_who, pass_seen, pass_mine, pass_holds, pass_room}
use Rattle.zk_turn.specs.Players.{GoesOn, room_of_a_pass}
use Rattle.zk_work.specs.declared.work.Work.{Work}
use Rattle.zk_work.specs.Seen.{work_start}
use Rattle.zk_trigger.specs.declared.pump.Owed.{Owed}
use Rattle.zk_trigger.specs.declared.pump.Pump.{Pump}
use Rattle.zk_trigger.specs.declared.trigger.Trigger.{Trigger}
use Rattle.zk_trigger.specs.Seen.{trigger_start}
use Rattle.zk_trigger.specs.Pumping.{HasTaken, HasSubmitted}

-- the two cells
abbrev pub TriggerCell : Type 0
TriggerCell = Cell Trigger TriggerOp TriggerReply Triggers

abbrev pub WorkCell : Type 0
WorkCell = Cell Work WorkOp WorkReply State

module _ {S O R T : Type 0} where
  -- of the pass that is there: what it has seen, its player's entries there, how many turns it had,
  -- and how many entries it may add
  abbrev pub seen_at : Option (Pass S O R T) → List (Entry O R)
  seen_at None = []
  seen_at (Some p) = pass_seen p

  abbrev pub mine_at : Option (Pass S O R T) → List (Entry O R)
  mine_at None = []
  mine_at (Some p) = pass_mine p

  abbrev pub holds_at : Option (Pass S O R T) → ℕ
  holds_at None = 0
  holds_at (Some p) = pass_holds p

  abbrev pub room_at : Option (Pass S O R T) → ℕ
  room_at None = 0
  room_at (Some p) = pass_room p

  -- a pass of this cell, of this player alone, whose entries so far are of steps below this one
  pub record IsPlayers (legal : T → List (Entry O R) → Type 0) (start : S → T) (c : Cell S O R T) (who : Who) (step : ℕ)
      (p : Pass S O R T) : Type 0 where
    pub of_cell : IsPassOf legal start c p
    pub player : pass_who p ≡ who
    pub alone : pass_players p ≡ who ∷ []
    pub later : IsAbove (pass_mine p) who.number step

  -- there is one
  abbrev pub IsSeat : (T → List (Entry O R) → Type 0) → (S → T) → Cell S O R T → Who → ℕ → Option (Pass S O R T) → Type 0
  IsSeat legal start c who step None = ⊥
  IsSeat legal start c who step (Some p) = IsPlayers legal start c who step p

-- the item and the queue of a fire that was taken
abbrev pub taken_one : TriggerReply → Option (ℕ × ℕ)
taken_one (Fire number item queue cause) = Some (item, queue)
taken_one _ = None

-- the item and the queue of a submission
abbrev pub submitted_one : WorkOp → Option (ℕ × ℕ)
submitted_one (Submit item (Some queue)) = Some (item, queue)
submitted_one _ = None

-- what the pump has taken: the fires among the entries of its player, in order
abbrev pub taken_by : Pump → List (ℕ × ℕ)
taken_by p = filter_map (λ e. taken_one e.reply) (mine_at p.triggers)

-- what it has submitted: the submissions among the entries of its player, in order
abbrev pub submitted_by : Pump → List (ℕ × ℕ)
submitted_by p = filter_map (λ e. submitted_one e.op) (mine_at p.work)

-- what it owes
abbrev pub owed_by : Pump → List (ℕ × ℕ)
owed_by p = option_to_list (option_map (λ o. (o.item, o.queue)) p.owed)

-- A pump of one player at these cells: what it has submitted, and then what it owes, is what it has taken,
-- one for one and in order.
pub record IsPump (triggers : TriggerCell) (work : WorkCell) (who : Who) (p : Pump) : Type 0 where
  pub at_triggers : IsSeat (IsLegal trigger_machine) trigger_start triggers who p.step p.triggers
  pub at_work : IsSeat (IsLegal work_machine) work_start work who p.step p.work
  pub short : p.step + (room_at p.triggers + room_at p.work) ≤ 2 * room_of_a_pass
  pub range : IfSome p.owed (λ o. (o.item < 256) × (o.queue < 8))
  pub balanced : submitted_by p ++ owed_by p ≡ taken_by p

-- What is to be submitted next.

-- it was owed already
pub record WasOwed (owed : Owed) (old new : Pump) : Type 0 where
  pub owes : old.owed ≡ Some owed
  pub same : new ≡ old

-- it was taken, and is owed from then on
pub record IsTaken (who : Who) (owed : Owed) (old new : Pump) : Type 0 where
  pub owes : old.owed ≡ None
  pub taken : HasTaken who old.step owed (seen_at old.triggers) (seen_at new.triggers)
  pub holds : holds_at new.triggers ≡ holds_at old.triggers + 1
  pub room : room_at new.triggers + 1 ≡ room_at old.triggers
  pub next : new ≡ record old { triggers = new.triggers; owed = Some owed; step = old.step + 1 }

-- nothing was owed, and at this turn of the triggers there was no fire
pub record IsIdle (who : Who) (old new : Pump) : Type 0 where
  pub owes : old.owed ≡ None
  pub none : IsImpossible trigger_machine new_triggers who old.step Next (seen_at old.triggers) (seen_at new.triggers)
  pub holds : holds_at new.triggers ≡ holds_at old.triggers + 1
  pub room : room_at new.triggers ≡ room_at old.triggers
  pub next : new ≡ record old { triggers = new.triggers }

-- nothing was owed, and the taking wanted memory
pub record IsUntaken (who : Who) (old new : Pump) : Type 0 where
  pub owes : old.owed ≡ None
  pub since : GoesOn (who ∷ []) (seen_at old.triggers) (seen_at new.triggers)
  pub holds : holds_at new.triggers ≡ holds_at old.triggers + 1
  pub room : room_at new.triggers ≡ room_at old.triggers
  pub next : new ≡ record old { triggers = new.triggers }

abbrev pub HasNext : Who → Pump → Pump → Result (Option Owed) NoMemory → Type 0
HasNext who old new (Ok (Some owed)) = WasOwed owed old new ⊎ IsTaken who owed old new
HasNext who old new (Ok None) = IsIdle who old new
HasNext who old new (Err e) = IsUntaken who old new

-- What is owed is submitted.

-- it is, and nothing is owed
pub record IsPaid (who : Who) (start : State) (owed : Owed) (told : Submitted) (old new : Pump) : Type 0 where
  pub submitted : HasSubmitted start who old.step owed told (seen_at old.work) (seen_at new.work)
  pub holds : holds_at new.work ≡ holds_at old.work + 1
  pub room : room_at new.work + 1 ≡ room_at old.work
  pub next : new ≡ record old { work = new.work; owed = None; step = old.step + 1 }

-- it wanted memory, and is owed still
pub record IsUnpaid (who : Who) (old new : Pump) : Type 0 where
  pub since : GoesOn (who ∷ []) (seen_at old.work) (seen_at new.work)
  pub holds : holds_at new.work ≡ holds_at old.work + 1
  pub room : room_at new.work ≡ room_at old.work
  pub next : new ≡ record old { work = new.work }

abbrev pub HasPaid : Who → State → Owed → Pump → Pump → Result Submitted NoMemory → Type 0
HasPaid who start owed old new (Ok submitted) = IsPaid who start owed submitted old new
HasPaid who start owed old new (Err e) = IsUnpaid who old new

-- A step: None exactly where nothing was owed and there was no fire; else what was owed, or was taken,
-- was submitted, or wanted memory.
abbrev pub HasPumped : Who → State → Pump → Pump → Result (Option Submitted) NoMemory → Type 0
HasPumped who start old new (Ok None) = HasNext who old new (Ok None)
HasPumped who start old new (Ok (Some submitted)) =
    (mid : Pump) × (owed : Owed) × HasNext who old mid (Ok (Some owed)) × HasPaid who start owed mid new (Ok submitted)
HasPumped who start old new (Err e) = HasNext who old new (Err e)
    ⊎ ((mid : Pump) × (owed : Owed) × HasNext who old mid (Ok (Some owed)) × HasPaid who start owed mid new (Err e))
