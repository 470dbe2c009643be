use Rattle.std.specs.Prelude.{ℕ, ◌+◌, ◌-◌, List, ◌++◌, codes, decimal}
use Rattle.zk_show_chart.specs.declared.chart.Tick.{Tick}
use Rattle.zk_show_svg.specs.declared.plan.Plan.{Plan}
use Rattle.zk_show_svg.specs.Places.{row_top, width, placed}

-- where a rule stands: below the step that tells the time, up to the margin
abbrev pub rule_top : Plan → Tick → ℕ
rule_top plan tick = row_top plan tick.row + 21

abbrev pub rule_right : Plan → ℕ
rule_right plan = width plan - 16

-- a rule across the chart
unfoldable pub rule_line : ℕ → ℕ → List ℕ
rule_line top right = codes "<path class=\"t\" d=\"M16 " ++ decimal top ++ codes "H" ++ decimal right ++ codes "\"/>"

unfoldable pub tick_rule : Plan → Tick → List ℕ
tick_rule plan tick = rule_line (rule_top plan tick) (rule_right plan)

-- and above its right end the time
unfoldable pub tick_time : Plan → Tick → List ℕ
tick_time plan tick =
    placed (codes "<text class=\"n\"") (width plan - 20) (row_top plan tick.row + 17) ++ codes ">t=" ++ decimal tick.time
    ++ codes "</text>\n"

unfoldable pub tick_mark : Plan → Tick → List ℕ
tick_mark plan tick = tick_rule plan tick ++ tick_time plan tick
