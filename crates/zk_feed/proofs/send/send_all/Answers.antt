use Rattle.std.proofs.Common.{◌≡◌, ℕ, suc, ◌+◌, List, subst, arith}
use Rattle.zk_msgsub.specs.declared.msg_sub.MsgSub.{MsgSub}
use Rattle.zk_msgsub.specs.Notes.{Message}
use Rattle.zk_msgsub.specs.Publishers.{HasSent, IsPublisherOf}
use Rattle.zk_feed.specs.Feeding.{IsFeeding}
use Rattle.zk_feed.proofs.Sends.{one-more, rooms-after}
use Rattle.zk_feed.proofs.send.send_all.Goals as goal

pub loop-sent-preserved : goal.loop-sent-preserved
loop-sent-preserved g c =
    let f = c.args.shared.now in
    let l = c.loop-sent in
    let p = c.args.number in
    let n = l.sent in
    let old = l.feeder.publisher in
    let new = c.send.new.self in
    let sent = c.in-Ok.field-0 in
    let feeding = l.invariant.1 in
    let below = c.loop-sent-test.true in
    let same = c.deref.ensures.value in
    let own = subst (λ (subs : List MsgSub). IsPublisherOf f.fan subs new) same c.send.ensures.own in
    let has = subst (λ (y : List MsgSub × Message). HasSent f.fan y.0 y.1 old new sent)
    (λ i. (same i, c.message_of.ensures i)) c.in-Ok.ensures.sent in
    let rooms = rooms-after f c.requires.open p n old new sent feeding below own has c.send.ensures.rooms in
    let next : suc n ≡ n + 1 = omega arith in (
      l.invariant.0,
      subst (λ (k : ℕ). IsFeeding f p k new) next (one-more f c.requires.open p n old new sent feeding below own has
          c.send.ensures.room rooms),
    )
