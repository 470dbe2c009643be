use Rattle.std.proofs.Common.{List, Vec, Global, sym, subst, arith}
use Rattle.zk_msgsub.specs.declared.msg_sub.MsgSub.{MsgSub}
use Rattle.zk_msgsub.specs.declared.seats.PubSeat.{PubSeat}
use Rattle.zk_msgsub.specs.declared.seats.SubSeat.{SubSeat}
use Rattle.zk_feed.specs.Feeding.{AreColumns, AreSubs, IsColumn, IsIdle, IsSubOf}
use Rattle.zk_feed.proofs.Opening.{columns-push, subs-push}
use Rattle.zk_feed.proofs.subscribers.subscribers_of.Goals as goal

pub loop-made-preserved : goal.loop-made-preserved
loop-made-preserved c =
    let l = c.loop-made in
    let inv = l.invariant in
    let size = c.args.size in
    let m = c.in_ok-sub.sub in
    let t = c.in_ok-sub.taker in
    let seats = c.in_ok-sub.seats in
    let subs = c.push_within.ensures in
    let takers = c.push_within-in-loop-made.ensures in
    let columns = c.push_within-in-loop-made-2.ensures in
    let of : IsSubOf size m = record {
      capacity = c.in_ok-sub.ensures.capacity;
      publishers = c.in_ok-sub.ensures.publishers;
      each = c.in_ok-sub.ensures.each;
    } in
    let idle : IsIdle m t = record { own = c.in_ok-sub.ensures.taker; taken = c.in_ok-sub.ensures.taken } in
    let column : IsColumn m size.publishers seats.items =
    record { fresh = c.in_ok-sub.ensures.seats; order = c.in_ok-sub.ensures.order } in
    let made = inv.made in
    let taker_made = inv.takers in
    let seats_made = inv.seats in
    let room = inv.room in
    let room' = inv.takers_room in
    let room'' = inv.seats_room in
    let len = subs.len in
    let len' = takers.len in
    let len'' = columns.len in
    let kept = subs.capacity in
    let kept' = takers.capacity in
    let kept'' = columns.capacity in
    record {
      subs = subst (λ (y : List MsgSub × List SubSeat). AreSubs size y.0 y.1) (λ i. (sym subs.items i, sym takers.items i))
          (subs-push size l.subs.items l.takers.items m t inv.subs of idle);
      columns = subst (λ (y : List MsgSub × List (Vec PubSeat Global)). AreColumns size.publishers y.0 y.1)
          (λ i. (sym subs.items i, sym columns.items i))
          (columns-push size.publishers l.subs.items l.columns.items m seats inv.columns column);
      made = omega arith;
      takers = omega arith;
      seats = omega arith;
      room = omega arith;
      takers_room = omega arith;
      seats_room = omega arith;
    }
