use Rattle.std.proofs.Common.{◌≡◌, ◌++◌, map, take}
use Rattle.zk_trace.specs.LookLines.{signal_line}
use Rattle.zk_trace.proofs.look_lines.add_signal_lines.Given as goal

abbrev pub invariant-loop-look : goal.invariant-loop-look
invariant-loop-look l = l.lines ≡ l.initial.lines ++ map (signal_line l.object) (take l.look-index l.looks)
