-- Inner: no contract of a top call is made of this file.
-- Passes and a pump that are tried by tests.
use Rattle.std.specs.Prelude.{◌≡◌, ℕ, ◌+◌, ◌≤◌, true, [], ◌∷◌, pos}
use Rattle.zk_base.specs.declared.ids.Who.{Who}
use Rattle.zk_base.specs.History.{IsAbove}
use Rattle.zk_base.specs.Legal.{IsLegal}
use Rattle.zk_model_trigger.specs.declared.ops.TriggerOp.{TriggerOp}
use Rattle.zk_model_trigger.specs.declared.ops.TriggerReply.{TriggerReply}
use Rattle.zk_model_trigger.specs.Machine.{Triggers, trigger_machine, new_triggers}
use Rattle.zk_turn.specs.declared.pass.Pass.{Pass}
use Rattle.zk_turn.specs.Passes.{IsPassOf, pass_players, pass_who, pass_mine, pass_room, given_to}
use Rattle.zk_turn.specs.Players.{room_of_a_pass}
use Rattle.zk_work.specs.Seen.{work_start}
use Rattle.zk_trigger.specs.declared.pump.Pump.{Pump}
use Rattle.zk_trigger.specs.declared.trigger.Trigger.{Trigger}
use Rattle.zk_trigger.specs.Pumping.{is_wide}
use Rattle.zk_trigger.specs.Pumps.{TriggerCell, WorkCell, IsPump, room_at}
use Rattle.zk_trigger.specs.Seen.{trigger_start}

-- the pass of a player that arms, after so many steps
pub record IsArmer (triggers : TriggerCell) (steps : ℕ) (p : Pass Trigger TriggerOp TriggerReply Triggers) : Type 0 where
  pub of_cell : IsPassOf (IsLegal trigger_machine) trigger_start triggers p
  pub alone : pass_players p ≡ pass_who p ∷ []
  pub later : IsAbove (pass_mine p) (pass_who p).number steps
  pub room : room_of_a_pass ≤ pass_room p + steps

-- the player of the pump
abbrev pub pumper : Who
pumper = record { number = 1; prio = pos 0 }

-- its pump, after so many steps
pub record IsReady (triggers : TriggerCell) (work : WorkCell) (steps : ℕ) (p : Pump) : Type 0 where
  pub pump : IsPump triggers work pumper p
  pub triggers_room : room_of_a_pass ≤ room_at p.triggers + steps
  pub work_room : room_of_a_pass ≤ room_at p.work + steps
  pub start : trigger_start (given_to triggers) ≡ new_triggers
  pub wide : is_wide (work_start (given_to work)) ≡ true
