use Rattle.std.specs.Prelude.{ℕ, ◌+◌, ◌-◌, ◌*◌, List, ◌++◌, codes, Option, Some, None, nat_lt, min, max, if◌then◌else◌}
use Rattle.zk_show_chart.specs.declared.chart.Bar.{Bar}
use Rattle.zk_show_chart.specs.declared.chart.BarKind.{BarKind}
use Rattle.zk_show_chart.specs.declared.chart.BarKind.TheVariants.{Run, Script, Wait}
use Rattle.zk_show_svg.specs.declared.plan.Plan.{Plan}
use Rattle.zk_show_svg.specs.Places.{lane_left, row_top, bottom, placed, sized}

-- how much further in a run or a script begins than one that lies in no other; the deepest stand where the third does
abbrev pub inset : Plan → Bar → ℕ
inset plan bar = min bar.depth 2 * plan.shape.run_inset

-- how each kind looks
abbrev pub bar_element : Bar → BarKind → List ℕ
bar_element bar Run = codes "<rect class=\"run\""
bar_element bar Script = if nat_lt 2 bar.depth then codes "<rect class=\"script deep\"" else codes "<rect class=\"script\""
bar_element bar Wait = codes "<rect class=\"wait\""

-- from where it stands in its lane, and how wide it is
abbrev pub bar_left : Plan → Bar → BarKind → ℕ
bar_left plan bar Run = lane_left plan bar.player + plan.shape.run_left + inset plan bar
bar_left plan bar Script = lane_left plan bar.player + plan.shape.run_left + inset plan bar
bar_left plan bar Wait = lane_left plan bar.player + plan.shape.wait_left

abbrev pub bar_width : Plan → Bar → BarKind → ℕ
bar_width plan bar Run = plan.shape.run_width - inset plan bar
bar_width plan bar Script = plan.shape.run_width - inset plan bar
bar_width plan bar Wait = plan.shape.wait_width

-- from its first row to its last: a wait from below the box where it begins to the box where it ends, and a script to above the
-- step that tells that it is over
abbrev pub bar_top : Plan → Bar → BarKind → ℕ
bar_top plan bar Run = row_top plan bar.first + 1
bar_top plan bar Script = row_top plan bar.first + 1
bar_top plan bar Wait = row_top plan bar.first + (plan.shape.box_top + plan.shape.box_height)

abbrev pub last_bottom : Plan → BarKind → ℕ → ℕ
last_bottom plan Run last = row_top plan last + 21
last_bottom plan Script last = row_top plan last - 1
last_bottom plan Wait last = row_top plan last + plan.shape.box_top

-- what has no end goes on below the last row
abbrev pub bar_bottom : Plan → Bar → Option ℕ → ℕ
bar_bottom plan bar None = bottom plan + 6
bar_bottom plan bar (Some last) = last_bottom plan bar.kind last

unfoldable pub bar_mark : Plan → Bar → List ℕ
bar_mark plan bar =
    placed (bar_element bar bar.kind) (bar_left plan bar bar.kind) (bar_top plan bar bar.kind)
    ++ sized (bar_width plan bar bar.kind) (max (bar_bottom plan bar bar.last - bar_top plan bar bar.kind) 2)
    ++ codes " rx=\"3\"/>\n"
