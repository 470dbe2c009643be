use Rattle.std.proofs.Common.{◌≡◌, ◌+◌, drop}
use Rattle.zk_failures.specs.Capped.{capped}
use Rattle.zk_failures.specs.Lines.{row_line}
use Rattle.zk_failures.proofs.lines.row_line.Given as goal

abbrev pub invariant-loop-section : goal.invariant-loop-section
invariant-loop-section l = capped (l.passed + row_line (drop l.section-index l.lengths) l.left) ≡ capped (row_line l.lengths l.row)
