use Rattle.std.proofs.Common.{None, arith}
use Rattle.zk_model_work.proofs.Lines.{submit_arms-more, expiries-more}
use Rattle.zk_model_work.proofs.growth.submit_arms.Goals as goal

pub loop-index-preserved : goal.loop-index-preserved
loop-index-preserved c =
    let marks = c.args.marks.now in
    let queues = c.args.queues.now in
    let arms = c.args.arms.now in
    let so_far = c.loop-index.invariant in
    let room = so_far.2 in
    let within = c.loop-index-test.true in
    let one = c.submit_arm-expiry.ensures in
    let len = one.len in
    let capacity = one.capacity in
    let told_len = c.tell.ensures.len in
    let told_capacity = c.tell.ensures.capacity in (
      submit_arms-more marks queues None arms c.loop-index.index _ c.args.admissions.now.items
          c.loop-index.admissions.items _ c.submit_arm-expiry.result.submitted within so_far.0 one.answer one.admissions,
      expiries-more marks queues arms c.loop-index.index _ c.args.admissions.now.items c.loop-index.admissions.items
          c.loop-index.told.items _ c.submit_arm-expiry.result within so_far.0 so_far.1 one.answer one.item c.tell.ensures.items,
      omega arith,
      omega arith,
    )
