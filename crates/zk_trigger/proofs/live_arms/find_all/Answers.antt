use Rattle.std.proofs.Common.{arith}
use Rattle.zk_trigger.proofs.Finding.{found-put, found-kept}
use Rattle.zk_trigger.proofs.live_arms.find_all.Goals as goal
use Rattle.zk_trigger.proofs.live_arms.find_all.Goals.{then-meets, else-meets}

pub loop-index-preserved : goal.loop-index-preserved
loop-index-preserved c =
    let xs = c.args.waiting.now in
    let i = c.loop-index.index in
    elim c.if-meets.branch [
      | then-meets w ↦
          rw w.found-is (record {
            items = found-put c.args.sought xs i _ c.meets.result c.loop-index.found.items w.put_found.new.found.items
                c.loop-index-test.true c.meets.ensures w.if-meets.true c.loop-index.invariant.items w.put_found.ensures.items;
            len = omega arith;
            capacity = omega arith;
          })
      | else-meets w ↦
          rw w.found-is (record {
            items = found-kept c.args.sought xs i _ c.meets.result c.loop-index.found.items
                c.loop-index-test.true c.meets.ensures w.if-meets.false c.loop-index.invariant.items;
            len = omega arith;
            capacity = omega arith;
          })
    ]
