use Rattle.std.proofs.Common.{◌≡◌, ◌++◌, drop}
use Rattle.zk_show_svg.specs.Steps.{step_marks}
use Rattle.zk_show_svg.proofs.rows.put_rows.Given as goal

abbrev pub invariant-loop-place : goal.invariant-loop-place
invariant-loop-place l = record {
  text : l.out.put ++ step_marks l.plan l.place (drop l.place l.rows) ≡ l.initial.out.put ++ step_marks l.plan 0 l.rows;
  front : l.out.front ≡ l.initial.out.front;
}
