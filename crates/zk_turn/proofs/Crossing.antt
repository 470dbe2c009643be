-- A pass goes to other threads, and a cell is shared by them, where the service may be sent.
use denote.RattleType.{RattleType}
use denote.Param.Send.{IsSend, IsSync, recorded_send, recorded_sync, struct_send, struct_sync, sendable}
use denote.Struct.Declared.{shape}
use Rattle.std.proofs.Crossing as heap
use Rattle.std.specs.contracts.option.Option as option
use Rattle.atomic_table.proofs.shared.Seat.TheSendSync as seat
use Rattle.atomic_table.proofs.shared.Shared.TheSendSync as shared
use Rattle.atomic_table.proofs.send_lease.SendLease.TheSendSync as lease
use Rattle.zk_base.specs.declared.service.Service.{Ghosts}
use Rattle.zk_turn.specs.contracts.cell.Cell as cell
use Rattle.zk_turn.specs.contracts.pass.Pass as pass

option_send : (S : RattleType) → IsSend S → IsSend (option.the_row S)
option_send S s = search sendable depth 14

-- what a pass holds goes where its service goes, and so does the pass
pub pass_part : (S O R T : RattleType) → IsSend S → IsSend (pass.the_field S O R T).row
pass_part S O R T s = struct_send (shape (pass.the_type S O R T)) (seat.the_send _ _ (option_send S s), search sendable depth 20)

pub pass_send : (S O R T : RattleType) → IsSend S → IsSend (pass.the_row S O R T)
pass_send S O R T s = recorded_send _ _ _ (pass.the_type S O R T).to_one (pass_part S O R T s)

-- a cell is shared where its service goes
pub cell_part : (S O R T : RattleType) (g : Ghosts S.Denot O.Denot R.Denot T.Denot) → IsSend S → IsSync (cell.the_field S O R T g).row
cell_part S O R T g s = struct_sync (shape (cell.the_type S O R T g)) (
  search (sendable, option_send, shared.the_sync, lease.the_sync, heap.sync, heap.send, heap.frees) depth 24,
  (search heap.crosses depth 4, tt),
)

pub cell_sync : (S O R T : RattleType) (g : Ghosts S.Denot O.Denot R.Denot T.Denot) → IsSend S → IsSync (cell.the_row S O R T g)
cell_sync S O R T g s = recorded_sync _ _ _ (cell.the_type S O R T g).to_one (cell_part S O R T g s)
