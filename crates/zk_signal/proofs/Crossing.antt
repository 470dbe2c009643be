-- A pass of a signal goes to other threads, and a signal is shared by them.
use denote.Param.Send.{IsSend, IsSync, recorded_send, recorded_sync, struct_send, struct_sync, sendable}
use denote.Struct.Declared.{shape}
use Rattle.std.proofs.Crossing as heap
use Rattle.atomic_table.proofs.shared.Seat.TheSendSync as seat
use Rattle.atomic_table.proofs.shared.Shared.TheSendSync as shared
use Rattle.atomic_table.proofs.send_lease.SendLease.TheSendSync as lease
use Rattle.zk_signal.specs.contracts.pass.SigPass as sig_pass
use Rattle.zk_signal.specs.contracts.signal.SharedSignal as shared_signal

pub sig_pass_send : IsSend sig_pass.the_row
sig_pass_send =
    recorded_send _ _ _ sig_pass.the_type.to_one
    (struct_send (shape sig_pass.the_type) (seat.the_send _ _ (search sendable depth 14), (search sendable depth 14, tt)))

pub shared_sync : IsSync shared_signal.the_row
shared_sync =
    recorded_sync _ _ _ shared_signal.the_type.to_one
    (struct_sync (shape shared_signal.the_type) (
      search (sendable, shared.the_sync, lease.the_sync, heap.sync, heap.send, heap.frees) depth 24,
      tt,
    ))
