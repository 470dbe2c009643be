use Rattle.std.proofs.Common.{◌+◌, ◌++◌, List, sym, ◌∙◌, subst}
use Rattle.zk_show_chart.specs.declared.chart.Bar.{Bar}
use Rattle.zk_show_text.specs.Opened.{AreOpened}
use Rattle.zk_show_text.specs.Rows.{row_lines}
use Rattle.zk_show_text.proofs.OpenBars.{all_opened, opened_below}
use Rattle.zk_show_text.proofs.RowLines.{lines_on, row_there}
use Rattle.zk_show_text.proofs.rows.put_rows.Goals as goal

pub loop-number-preserved : goal.loop-number-preserved
loop-number-preserved c =
    let decls = c.args.scenario.now.decls in
    let l = c.args.layout.now in
    let bars = c.args.bars.now in
    let rows = c.args.rows.now in
    let number = c.loop-number.number in
    let next = c.in_ok-next.next in
    let those = c.open_bars.new.through.items in
    let opened = c.in_ok-next.ensures.opened in
    let all = all_opened number bars next those c.requires.order opened c.in_ok-next.ensures.all in
    let row = row_there rows number c.loop-number-test.true in
    record {
      opened = subst (λ (bs : List Bar). AreOpened (number + 1) bars next bs) (sym c.close_bars.ensures) (opened_below number bars next those opened);
      text =
          lines_on decls l bars c.deref.result.now number rows row.0 c.loop-number.out.items c.put_row_at.new.out.items
          (c.args.out.now.items ++ row_lines decls l bars 0 rows) row.1 (c.deref.ensures.value ∙ all)
          (c.in_ok-put_row_at.ensures row.0 row.1) c.loop-number.invariant.text;
    }
