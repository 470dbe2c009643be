use Rattle.std.proofs.Common.{◌≡◌, map, take}
use Rattle.zk_show_chart.specs.Lines.{line_said}
use Rattle.zk_show_chart.specs.Rows.{row_said, said_of}
use Rattle.zk_show_chart.proofs.rows.rows_of.Given as goal

abbrev pub invariant-loop-place : goal.invariant-loop-place
invariant-loop-place l = map row_said l.rows.items ≡ map (said_of l.stood (map line_said l.lines)) (take l.place-index l.order)
