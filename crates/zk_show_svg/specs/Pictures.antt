use Rattle.std.specs.Prelude.{◌≡◌, ℕ, min, List, ◌++◌, length, codes}
use Rattle.std.specs.List.{flat_map}
use Rattle.zk_show_chart.specs.declared.chart.Chart.{Chart}
use Rattle.zk_show_svg.specs.declared.plan.Plan.{Plan}
use Rattle.zk_show_svg.specs.Arrows.{arrow_mark}
use Rattle.zk_show_svg.specs.Bars.{bar_mark}
use Rattle.zk_show_svg.specs.Steps.{last_row, step_marks}
use Rattle.zk_show_svg.specs.Ticks.{tick_mark}

-- the picture of a chart, with a lane for each player: its head and the lanes, then each bar, each moment and each arrow in order, the lanes'
-- names, each step in order in a row of its own, what is noted below them, and the end of the picture
pub record IsPicture (players : ℕ) (chart : Chart) (picture : List ℕ) : Type 0 where
  pub plan : Plan
  pub lanes : plan.lanes ≡ players
  pub rows : plan.rows ≡ min (length chart.rows.items) last_row
  pub head : List ℕ
  pub names : List ℕ
  pub notes : List ℕ
  pub text : picture ≡ head ++ flat_map (bar_mark plan) chart.bars.items
      ++ flat_map (tick_mark plan) chart.ticks.items ++ flat_map (arrow_mark plan chart.rows.items) chart.arrows.items
      ++ names ++ step_marks plan 0 chart.rows.items ++ notes ++ codes "</svg>\n"

-- a text goes on with the picture of a chart
abbrev pub AppendsPicture : ℕ → Chart → List ℕ → List ℕ → Type 0
AppendsPicture players chart old new = (picture : List ℕ) × IsPicture players chart picture × (new ≡ old ++ picture)
