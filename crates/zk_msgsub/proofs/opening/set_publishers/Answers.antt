use Rattle.std.proofs.Common.{◌+◌, ap, arith}
use Rattle.crossbeam_queue.specs.Passes.{view}
use Rattle.zk_msgsub.specs.declared.views.View.{View}
use Rattle.zk_msgsub.proofs.Dealing.{grows}
use Rattle.zk_msgsub.proofs.opening.set_publishers.Goals as goal

pub another-requires-clause-rule : goal.another-requires-clause-rule
another-requires-clause-rule c =
    let pass = c.loop-made.pass in
    let v = view pass in
    let is = c.loop-made.invariant.1 in
    grows pass.id v (v.publishers + 1) v.each (ap (λ (u : View). u.takes) is) (ap (λ (u : View). u.dealt) is) (omega arith)
    (omega arith)
