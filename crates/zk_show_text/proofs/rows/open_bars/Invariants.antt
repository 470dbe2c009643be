use Rattle.std.proofs.Common.{◌-◌, length}
use Rattle.zk_show_text.specs.Opened.{AreOpened}
use Rattle.zk_show_text.proofs.rows.open_bars.Given as goal

abbrev pub invariant-loop-next : goal.invariant-loop-next
invariant-loop-next l = AreOpened l.row l.bars l.next l.through.items

abbrev pub decreases-loop-next : goal.decreases-loop-next
decreases-loop-next l = length l.initial.bars - l.next
