use Rattle.std.specs.Prelude.{ℕ, List}
use Rattle.zk_base.specs.declared.errors.Status.{Status}
use Rattle.zk_event.specs.declared.event.EventOp.{EventOp}
use Rattle.zk_event.specs.declared.event.EventReply.{EventReply}
use Rattle.zk_event.specs.Event.{Event, new_event, event_machine}
use Rattle.zk_side.specs.Output.{IsSideOutput}
use Rattle.zk_side.specs.Played.{Stage, stage_of}
use Rattle.zk_event_script.specs.Operations.{event_op}
use Rattle.zk_event_script.specs.Replies.{event_text}

-- what its side scripts are played on: an event object at which nothing was done
abbrev pub event_stage : Stage Event EventOp EventReply
event_stage = stage_of event_machine new_event event_op event_text

-- the whole output that goes with a status, for an input
abbrev pub IsEventOutput : Status → List ℕ → List ℕ → Type 0
IsEventOutput status input output = IsSideOutput event_stage status input output
