use Rattle.std.specs.Prelude.{◌≡◌, ℕ, ◌^◌, ◌<◌, List, length, map, All}
use Rattle.zk_scenario.specs.Content.{Content}
use Rattle.zk_scenario.specs.Players.{players}
use Rattle.zk_trace.specs.declared.stood.Stood.{Stood}
use Rattle.zk_trace.specs.declared.trace.Trace.{Trace}
use Rattle.zk_trace.specs.Stood.{stood}
use Rattle.zk_show_order.specs.Order.{lines_at}
use Rattle.zk_show_chart.specs.declared.chart.Arrow.{Arrow}
use Rattle.zk_show_chart.specs.declared.chart.Bar.{Bar}
use Rattle.zk_show_chart.specs.declared.chart.Chart.{Chart}
use Rattle.zk_show_chart.specs.Arrows.{IsArrow, AreByRow}
use Rattle.zk_show_chart.specs.Bars.{IsBar, AreInOrder, players_of, start, runs_of}
use Rattle.zk_show_chart.specs.Lines.{lines_said}
use Rattle.zk_show_chart.specs.Marks.{begun_rows}
use Rattle.zk_show_chart.specs.Rows.{AreDrawn, row_said, said_of}
use Rattle.zk_show_chart.specs.Ticks.{ticks_from}

-- the bars of these steps: each begins and ends at steps of its player, at most one begins in a row, and the runs begin where a
-- player takes up an admission
pub record AreBars (s : Content) (t : Trace) (drawn : List Stood) (bars : List Bar) : Type 0 where
  pub each : All (IsBar (players_of drawn)) bars
  pub order : AreInOrder (map start bars)
  pub runs : length drawn < 2 ^ 32 → runs_of (map start bars) ≡ begun_rows t (length (players s.decls)) 0 drawn

-- the arrows of so many rows: each leads down, and at most one to each row
pub record AreArrows (rows : ℕ) (arrows : List Arrow) : Type 0 where
  pub each : All (IsArrow rows) arrows
  pub order : AreByRow arrows

-- the chart of a trace, whose text begins in the line of this number: all its steps, in an order that agrees with each history
-- and each player's steps where there is one; each with the number, the service and the text of its line; with the bars, the
-- arrows and the moments of that order; and it ends as the trace
pub record IsChart (s : Content) (t : Trace) (text : List ℕ) (first_line : ℕ) (chart : Chart) : Type 0 where
  pub order : List ℕ
  pub drawn : AreDrawn (stood t) chart.agrees order
  pub rows : map row_said chart.rows.items ≡ map (said_of (stood t) (lines_said text first_line (stood t))) order
  pub bars : AreBars s t (lines_at (stood t) order) chart.bars.items
  pub arrows : AreArrows (length (lines_at (stood t) order)) chart.arrows.items
  pub ticks : length (lines_at (stood t) order) < 2 ^ 32 → chart.ticks.items ≡ ticks_from t 0 (lines_at (stood t) order)
  pub ending : chart.ending ≡ t.ending
