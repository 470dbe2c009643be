use Rattle.std.proofs.Common.{◌≡◌, ◌++◌, drop}
use Rattle.zk_show_chart.specs.Ticks.{ticks_from}
use Rattle.zk_show_chart.proofs.ticks.ticks_of.Given as goal

-- the moments of the rows so far, and those of the rows to come
abbrev pub invariant-loop-row : goal.invariant-loop-row
invariant-loop-row l = l.ticks.items ++ ticks_from l.trace l.row (drop l.row l.drawn) ≡ ticks_from l.trace 0 l.drawn
