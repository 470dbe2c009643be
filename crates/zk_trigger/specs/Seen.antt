-- Inner: no contract of a top call is made of this file.
use Rattle.std.specs.Prelude.{List}
use Rattle.zk_base.specs.declared.ids.Entry.{Entry}
use Rattle.zk_model_trigger.specs.declared.ops.TriggerOp.{TriggerOp}
use Rattle.zk_model_trigger.specs.declared.ops.TriggerReply.{TriggerReply}
use Rattle.zk_model_trigger.specs.Machine.{Triggers}
use Rattle.zk_trigger.specs.declared.trigger.Trigger.{Trigger}

-- the state that the service began in
abbrev pub trigger_start : Trigger → Triggers
trigger_start t = t.inner.start

-- all that was done at it, oldest first
abbrev pub trigger_history : Trigger → List (Entry TriggerOp TriggerReply)
trigger_history t = t.inner.history
