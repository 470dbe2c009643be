use Rattle.std.proofs.Common.{◌≡◌, drop}
use Rattle.zk_trace.specs.Stood.{put_lines}
use Rattle.zk_trace.proofs.steps_read.put_lines.Given as goal

abbrev pub invariant-loop-line : goal.invariant-loop-line
invariant-loop-line l = put_lines (drop l.line-index l.lines) l.lists.items ≡ put_lines l.lines l.fn.lists.items
