use Rattle.std.proofs.Common.{All}
use Rattle.zk_show_chart.specs.Arrows.{IsArrow, AreByRow}
use Rattle.zk_show_chart.proofs.arrows.arrows_of.Given as goal

-- the arrows to the rows so far
abbrev pub invariant-loop-row : goal.invariant-loop-row
invariant-loop-row l = record {
  each : All (IsArrow l.row) l.arrows.items;
  order : AreByRow l.arrows.items;
}
