-- An event object goes to other threads.
use denote.Param.Send.{IsSend, sendable}
use Rattle.std.proofs.Crossing.{crosses}
use Rattle.zk_event.specs.contracts.service.Event as event

pub event_send : IsSend event.the_row
event_send = search (sendable, crosses) depth 60 fits 20000
