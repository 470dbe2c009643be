use Rattle.std.proofs.Common.{◌≡◌, ◌+◌, ◌<◌, ◌^◌, length}
use Rattle.zk_scenario.specs.Grammar.{read_lines}
use Rattle.zk_scenario.specs.Reading.{start}
use Rattle.zk_scenario.proofs.read.read_lines.Given as goal

abbrev pub invariant-loop-next : goal.invariant-loop-next
invariant-loop-next l =
    (read_lines l.number l.reader l.piece l.lines ≡ read_lines 2 start l.initial.first l.initial.lines) × (l.number + length l.lines < 2 ^ 31 + 2)

abbrev pub decreases-loop-next : goal.decreases-loop-next
decreases-loop-next l = length l.lines
