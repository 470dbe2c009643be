use Rattle.std.specs.Prelude.{ℕ, List, ◌++◌}
use Rattle.zk_line.specs.declared.types.Decl.{Decl}
use Rattle.zk_show_chart.specs.declared.chart.Chart.{Chart}
use Rattle.zk_show_text.specs.Header.{header}
use Rattle.zk_show_text.specs.Layout.{layout_of}
use Rattle.zk_show_text.specs.Rows.{row_lines}

-- a chart as lines of text: the names and the rows
abbrev pub chart_text : List Decl → Chart → List ℕ
chart_text decls chart =
    let l = layout_of decls chart.rows.items in
    header decls l chart.agrees ++ row_lines decls l chart.bars.items 0 chart.rows.items
