use Rattle.std.proofs.Common.{◌≡◌, ◌++◌, map, take}
use Rattle.zk_trace.specs.LookLines.{item_line}
use Rattle.zk_trace.proofs.look_lines.add_item_lines.Given as goal

abbrev pub invariant-loop-look : goal.invariant-loop-look
invariant-loop-look l = l.lines ≡ l.initial.lines ++ map item_line (take l.look-index l.looks)
