use Rattle.std.proofs.Common.{get_or, arith}
use Rattle.zk_model_trigger.specs.declared.parts.Armed.{Armed}
use Rattle.zk_model_trigger.specs.Arms.{change_one}
use Rattle.zk_model_trigger.proofs.Putting.{mapped-more, changed-life}
use Rattle.zk_model_trigger.proofs.changes.change_all.Goals as goal

pub loop-index-preserved : goal.loop-index-preserved
loop-index-preserved c =
    let i = c.loop-index.index in
    let d : Armed = c.index-arms-index-in-loop-index.result in
    let life = c.life_after-life.result in
    mapped-more (change_one c.args.change) c.args.arms.now c.loop-index.arms i d (record (get_or c.loop-index.arms i d) { life = life })
    c.loop-index-test.true c.loop-index.auto.arms c.loop-index.invariant
    (changed-life c.args.change c.loop-index.arms i d c.index-arms-index.result life (omega arith)
    c.life_after-life.ensures)
