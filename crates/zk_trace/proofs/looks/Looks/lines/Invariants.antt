use Rattle.std.proofs.Common.{◌≡◌, ◌++◌, map, drop}
use Rattle.zk_trace.specs.LookLines.{item_line, signal_lines}
use Rattle.zk_trace.proofs.looks.Looks.lines.Given as goal

abbrev pub invariant-loop-object : goal.invariant-loop-object
invariant-loop-object l =
    l.lines ++ signal_lines l.object (drop l.object l.looks-items) ≡ map item_line l.self.items ++ signal_lines 0 l.looks-items
