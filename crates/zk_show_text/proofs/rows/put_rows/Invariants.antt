use Rattle.std.proofs.Common.{◌≡◌, ◌++◌, drop}
use Rattle.zk_show_text.specs.Opened.{AreOpened}
use Rattle.zk_show_text.specs.Rows.{row_lines}
use Rattle.zk_show_text.proofs.rows.put_rows.Given as goal

-- the lines so far and those that are left
abbrev pub invariant-loop-number : goal.invariant-loop-number
invariant-loop-number l =
    let decls = l.scenario.decls in
    record {
      opened : AreOpened l.number l.bars l.next l.through.items;
      text : l.out.items ++ row_lines decls l.layout l.bars l.number (drop l.number l.rows) ≡ l.fn.out.items ++ row_lines decls l.layout l.bars 0 l.rows;
    }
