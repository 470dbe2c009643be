-- Seats and publishers go to threads, and the queues of subscribers are shared by them.
use denote.RattleType.{RattleType}
use denote.Param.Send.{IsSend, IsSync, recorded_send, recorded_sync, struct_send, struct_sync, sendable}
use denote.Struct.Declared.{shape}
use Rattle.std.proofs.Crossing as heap
use Rattle.std.proofs.Crossing.{crosses}
use Rattle.std.specs.contracts.option.Option as option
use Rattle.atomic_table.proofs.send_lease.SendLease.TheSendSync as lease
use Rattle.atomic_table.proofs.shared.Seat.TheSendSync as seat
use Rattle.atomic_table.proofs.shared.Shared.TheSendSync as shared
use Rattle.zk_turn.proofs.Crossing.{pass_send}
use Rattle.zk_msgsub.specs.contracts.fan.Fan as fan
use Rattle.zk_msgsub.specs.contracts.msg_sub.MsgSub as msg_sub
use Rattle.zk_msgsub.specs.contracts.note.Note as note
use Rattle.zk_msgsub.specs.contracts.publisher.Publisher as publisher
use Rattle.zk_msgsub.specs.contracts.seats.PubSeat as pub_seat
use Rattle.zk_msgsub.specs.contracts.seats.SubSeat as sub_seat

option_send : (T : RattleType) → IsSend T → IsSend (option.the_row T)
option_send T send = search sendable depth 14

note_send : IsSend note.the_row
note_send = search sendable depth 14

-- a publisher's seat goes anywhere
pub pub_seat_send : IsSend pub_seat.the_row
pub_seat_send = recorded_send _ _ _ pub_seat.the_type.to_one
    (struct_send (shape pub_seat.the_type) (seat.the_send _ _ (option_send note.the_row note_send), search sendable depth 20))

-- so does the subscriber's
pub sub_seat_send : IsSend sub_seat.the_row
sub_seat_send = recorded_send _ _ _ sub_seat.the_type.to_one
    (struct_send (shape sub_seat.the_type) (seat.the_send _ _ (option_send note.the_row note_send), tt))

-- a subscriber's queue is shared by any
pub msg_sub_sync : IsSync msg_sub.the_row
msg_sub_sync = recorded_sync _ _ _ msg_sub.the_type.to_one (struct_sync (shape msg_sub.the_type) (
  search (sendable, note_send, option_send, shared.the_sync, lease.the_sync, heap.sync, heap.send, heap.frees) depth 24,
  search sendable depth 20,
))

-- a fan goes anywhere, so a cell of it is shared by any (`cell_sync`)
pub fan_send : IsSend fan.the_row
fan_send = search (sendable, crosses) depth 60 fits 20000

-- and so does a publisher, with its pass and its seats
pub publisher_send : IsSend publisher.the_row
publisher_send = search (pass_send, fan_send, pub_seat_send, sendable, crosses) depth 60 fits 20000
