use Rattle.std.proofs.Common.{◌≡◌, ap, arith}
use Rattle.crossbeam_queue.specs.Passes.{view}
use Rattle.zk_msgsub.specs.declared.views.View.{View}
use Rattle.zk_msgsub.specs.Seats.{sub_publishers}
use Rattle.zk_msgsub.proofs.Dealing.{deals}
use Rattle.zk_msgsub.proofs.msg_sub.MsgSub.deal_all.Goals as goal

pub another-dealt-requires-clause-rule : goal.another-dealt-requires-clause-rule
another-dealt-requires-clause-rule c =
    let pass = c.loop-publisher.pass in
    let v = view pass in
    let is = c.loop-publisher.invariant.1 in
    let more = c.loop-publisher-test.true in
    let dealt : v.dealt ≡ c.loop-publisher.publisher = ap (λ (u : View). u.dealt) is in
    let publishers : v.publishers ≡ sub_publishers c.args.self.now = ap (λ (u : View). u.publishers) is in
    deals pass.id v (ap (λ (u : View). u.takes) is) (omega arith)
