use Rattle.std.proofs.Common.{List, subst}
use Rattle.zk_msgsub.specs.declared.msg_sub.MsgSub.{MsgSub}
use Rattle.zk_msgsub.specs.Publishers.{IsPublisherOf}
use Rattle.zk_test_msgsub.proofs.Rounds.{one-more}
use Rattle.zk_test_msgsub.proofs.parts.play_part.Goals as goal

pub loop-round-preserved : goal.loop-round-preserved
loop-round-preserved g c =
    let f = c.args.shared.now in
    let l = c.loop-round in
    let new = c.send.new.self in
    let own = subst (λ (subs : List MsgSub). IsPublisherOf f.fan subs new) c.deref.ensures.value c.send.ensures.own in (
      one-more f l.round l.part.publisher new l.invariant.0 c.loop-round-test.true own c.send.ensures.room c.send.ensures.rooms,
      c.change-pass.ensures,
      l.invariant.2,
    )
