use Rattle.std.proofs.Common.{◌≡◌, take}
use Rattle.zk_show_text.specs.Marks.{marks_from}
use Rattle.zk_show_text.proofs.marks.put_marks.Given as goal

-- the marks of the bars so far
abbrev pub invariant-loop-bar : goal.invariant-loop-bar
invariant-loop-bar l = l.marks.items ≡ marks_from (take l.bar-index l.bars) 0 l.lanes
