use Rattle.std.specs.Prelude.{ℕ, List}
use Rattle.zk_base.specs.declared.errors.Status.{Status}
use Rattle.zk_model_trigger.specs.declared.ops.TriggerOp.{TriggerOp}
use Rattle.zk_model_trigger.specs.declared.ops.TriggerReply.{TriggerReply}
use Rattle.zk_model_trigger.specs.Machine.{Triggers, new_triggers, trigger_machine}
use Rattle.zk_side.specs.Output.{IsSideOutput}
use Rattle.zk_side.specs.Played.{Stage, stage_of}
use Rattle.zk_trigger_script.specs.Operations.{trigger_op}
use Rattle.zk_trigger_script.specs.Replies.{trigger_text}

-- what its side scripts are played on: triggers at which nothing was done
abbrev pub trigger_stage : Stage Triggers TriggerOp TriggerReply
trigger_stage = stage_of trigger_machine new_triggers trigger_op trigger_text

-- the whole output that goes with a status, for an input
abbrev pub IsTriggerOutput : Status → List ℕ → List ℕ → Type 0
IsTriggerOutput status input output = IsSideOutput trigger_stage status input output
