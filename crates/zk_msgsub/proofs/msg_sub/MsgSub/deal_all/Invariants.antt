use Rattle.std.proofs.Common.{◌≡◌, ◌≤◌, All, map, vec_len, vec_capacity}
use Rattle.crossbeam_queue.specs.Passes.{view, IsPassOf}
use Rattle.zk_msgsub.specs.Notes.{upto}
use Rattle.zk_msgsub.specs.Seats.{IsNewSeat, seat_publisher, sub_each, sub_publishers}
use Rattle.zk_msgsub.specs.Views.{dealing}
use Rattle.zk_msgsub.proofs.msg_sub.MsgSub.deal_all.Given as goal

abbrev pub invariant-loop-publisher : goal.invariant-loop-publisher
invariant-loop-publisher l =
    IsPassOf l.self.queue l.pass
    × (view l.pass ≡ dealing (sub_publishers l.self) (sub_each l.self) l.publisher)
    × All (IsNewSeat l.self) l.seats.items
    × (map seat_publisher l.seats.items ≡ upto l.publisher)
    × (vec_len l.seats ≡ l.publisher)
    × (sub_publishers l.self ≤ vec_capacity l.seats)
