use Rattle.std.proofs.Common.{arith}
use Rattle.zk_show_chart.proofs.arrows.arrows_of.Goals as goal

pub loop-row-preserved : goal.loop-row-preserved
loop-row-preserved c = record {
  each = c.in_ok-put_arrow.ensures.each c.loop-row.invariant.each;
  order = c.in_ok-put_arrow.ensures.order c.loop-row.invariant.each c.loop-row.invariant.order;
}

pub returns-clause-each : goal.returns-clause-each
returns-clause-each c = λ k d within. let is = c.loop-row.invariant.each k d within in record { down = is.down; within = omega arith }
