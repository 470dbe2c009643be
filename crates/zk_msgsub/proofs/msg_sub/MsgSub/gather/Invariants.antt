use Rattle.std.proofs.Common.{◌≡◌, ◌++◌, List, All, Contains}
use Rattle.crossbeam_queue.specs.Passes.{view}
use Rattle.zk_msgsub.specs.declared.seats.PubSeat.{PubSeat}
use Rattle.zk_msgsub.specs.Seats.{IsSeatOf, IsTakerPass, seat_publisher, seat_sent, sub_taken}
use Rattle.zk_msgsub.specs.Views.{pushed_by}
use Rattle.zk_msgsub.proofs.msg_sub.MsgSub.gather.Given as goal

abbrev pub invariant-loop-seat : goal.invariant-loop-seat
invariant-loop-seat l =
    IsTakerPass l.self l.pass
    × ((view l.pass).taken ≡ sub_taken l.fn.sub)
    × All (IsSeatOf l.self) l.seats.items
    × ((done : List PubSeat) × (l.seats.items ++ done ≡ l.fn.seats.items)
    × All (λ s. Contains (view l.pass).lists (pushed_by (seat_publisher s) (seat_sent s))) done)

abbrev pub decreases-loop-seat : goal.decreases-loop-seat
decreases-loop-seat l = goal.left-loop-seat l
