use Rattle.std.proofs.Common.{◌≡◌, ◌++◌, take}
use Rattle.std.specs.List.{flat_map}
use Rattle.zk_show_text.specs.Rows.{lane_text}
use Rattle.zk_show_text.proofs.rows.put_lanes.Given as goal

abbrev pub invariant-loop-mark : goal.invariant-loop-mark
invariant-loop-mark l = l.line.items ≡ l.fn.line.items ++ flat_map (lane_text l.width) (take l.mark-index l.marks)
