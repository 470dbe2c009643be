-- A pump goes to a thread, and a cell of triggers is shared by threads. In parts, since one search for all of it breaks off.
use denote.Param.Send.{IsSend, IsSync, sendable}
use Rattle.std.proofs.Crossing.{crosses}
use Rattle.zk_model_trigger.specs.contracts.ops.TriggerOp as op
use Rattle.zk_model_trigger.specs.contracts.ops.TriggerReply as reply
use Rattle.zk_model_trigger.specs.contracts.state.TriggerState as state
use Rattle.zk_turn.proofs.Crossing.{pass_send, cell_sync}
use Rattle.zk_turn.specs.contracts.cell.Cell as cell
use Rattle.zk_work.proofs.Crossing.{work_send}
use Rattle.zk_trigger.specs.contracts.pump.Pump as pump
use Rattle.zk_trigger.specs.contracts.trigger.Trigger as trigger
use Rattle.zk_trigger.specs.contracts.trigger.TriggerService.TheImpl.{ghosts}

-- triggers go anywhere
pub trigger_send : IsSend trigger.the_row
trigger_send = search (sendable, crosses) depth 60 fits 20000

-- so any thread may share a cell of them
pub trigger_cell_sync : IsSync (cell.the_row trigger.the_row op.the_row reply.the_row state.the_row ghosts)
trigger_cell_sync = cell_sync trigger.the_row op.the_row reply.the_row state.the_row ghosts trigger_send

-- and a pump goes anywhere, with its two passes
pub pump_send : IsSend pump.the_row
pump_send = search (pass_send, trigger_send, work_send, sendable, crosses) depth 60 fits 20000
