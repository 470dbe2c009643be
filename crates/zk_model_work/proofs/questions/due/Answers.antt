use Rattle.zk_model_work.proofs.Lines.{due-put, due-kept}
use Rattle.zk_model_work.proofs.questions.due.Goals as goal
use Rattle.zk_model_work.proofs.questions.due.Goals.{then-is_due+in_ok-put_in_order, else-is_due}

pub loop-index-preserved : goal.loop-index-preserved
loop-index-preserved c =
    elim c.if-is_due.branch [
      | then-is_due+in_ok-put_in_order w ↦
          due-put c.args.time c.args.arms.now c.loop-index.index _ c.is_due.result c.loop-index.found.items _
          c.loop-index-test.true c.is_due.ensures w.if-is_due.true c.loop-index.invariant
          (cc (w.found-is, w.in_ok-put_in_order.ensures))
      | else-is_due w ↦
          cc (
            w.found-is,
            due-kept c.args.time c.args.arms.now c.loop-index.index _ c.is_due.result
                c.loop-index.found.items c.loop-index-test.true c.is_due.ensures w.if-is_due.false c.loop-index.invariant,
          )
    ]
