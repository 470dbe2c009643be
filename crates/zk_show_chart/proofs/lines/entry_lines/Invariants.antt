use Rattle.std.proofs.Common.{◌≡◌, length}
use Rattle.zk_show_chart.proofs.TextLines.{AreRead}
use Rattle.zk_show_chart.proofs.lines.entry_lines.Given as goal

abbrev pub invariant-loop-one : goal.invariant-loop-one
invariant-loop-one l = record {
  len : length l.lines.items ≡ l.one-index;
  read : AreRead l.fn.text l.fn.first_line l.stood l.one-index l.lines.items l.rest;
}
