use Rattle.std.proofs.Common.{◌≡◌, take}
use Rattle.std.specs.List.{sum_by}
use Rattle.zk_failures.specs.Capped.{capped}
use Rattle.zk_failures.specs.Lines.{lines_of_section}
use Rattle.zk_failures.proofs.lines.all_sections.Given as goal

abbrev pub invariant-loop-rows : goal.invariant-loop-rows
invariant-loop-rows l = l.lines ≡ capped (sum_by lines_of_section (take l.rows-index l.lengths))
