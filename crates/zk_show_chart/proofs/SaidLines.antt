-- What is said of the lines at places.
use Rattle.std.proofs.Common.{◌≡◌, ℕ, List, [], map, get_or, sym, ap, ◌∙◌}
use Rattle.std.proofs.Math.ListN.{get_or-map}
use Rattle.zk_show_chart.specs.declared.lines.Line.{Line}
use Rattle.zk_show_chart.specs.Lines.{line_said}

-- what is said of the line at a place
pub said_at_place : (lines : List Line) (place : ℕ) (none : Line) → line_said none ≡ (0, [], [])
    → get_or (map line_said lines) place (0, [], []) ≡ line_said (get_or lines place none)
said_at_place lines place none nothing =
    ap (get_or (map line_said lines) place) (sym nothing) ∙ get_or-map line_said lines place none
