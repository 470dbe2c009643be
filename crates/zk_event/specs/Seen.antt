-- Inner: no contract of a top call is made of this file.
use Rattle.std.specs.Prelude.{List}
use Rattle.zk_base.specs.declared.ids.Entry.{Entry}
use Rattle.zk_event.specs.declared.event.EventOp.{EventOp}
use Rattle.zk_event.specs.declared.event.EventReply.{EventReply}
use Rattle.zk_event.specs.Event as model
use Rattle.zk_event.specs.declared.service.Event.{Event}

-- the state that the service began in
abbrev pub event_start : Event → model.Event
event_start s = s.inner.value.start

-- all that was done at it, oldest first
abbrev pub event_history : Event → List (Entry EventOp EventReply)
event_history s = s.inner.value.history
