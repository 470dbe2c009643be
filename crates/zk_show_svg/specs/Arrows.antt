use Rattle.std.specs.Prelude.{ℕ, ◌+◌, ◌-◌, ◌*◌, ◌%◌, List, [], ◌++◌, codes, decimal, Option, Some, None, slice_get, nat_lt, max, if◌then◌else◌}
use Rattle.zk_show_chart.specs.declared.chart.Arrow.{Arrow}
use Rattle.zk_show_chart.specs.declared.chart.ArrowKind.{ArrowKind}
use Rattle.zk_show_chart.specs.declared.chart.ArrowKind.TheVariants.{Admission, Give, Message, Visit, Completion, Note, Raise, Handover, Wake, Delay, Drop}
use Rattle.zk_show_chart.specs.declared.chart.Row.{Row}
use Rattle.zk_show_svg.specs.declared.arrows.Way.{Way}
use Rattle.zk_show_svg.specs.declared.plan.Plan.{Plan}
use Rattle.zk_show_svg.specs.Places.{box_left, box_right, row_top}

-- each kind has a class of its own, which gives it its colour, its dashes and its head
abbrev pub arrow_element : ArrowKind → List ℕ
arrow_element Admission = codes "<path class=\"a a0\" d=\"M"
arrow_element Give = codes "<path class=\"a a1\" d=\"M"
arrow_element Message = codes "<path class=\"a a2\" d=\"M"
arrow_element Visit = codes "<path class=\"a a3\" d=\"M"
arrow_element Completion = codes "<path class=\"a a4\" d=\"M"
arrow_element Note = codes "<path class=\"a a5\" d=\"M"
arrow_element Raise = codes "<path class=\"a a6\" d=\"M"
arrow_element Handover = codes "<path class=\"a a7\" d=\"M"
arrow_element Wake = codes "<path class=\"a a8\" d=\"M"
arrow_element Delay = codes "<path class=\"a a9\" d=\"M"
arrow_element Drop = codes "<path class=\"a a10\" d=\"M"

-- at which level of a row each kind begins and ends
abbrev pub kind_number : ArrowKind → ℕ
kind_number Admission = 0
kind_number Give = 1
kind_number Message = 2
kind_number Visit = 3
kind_number Completion = 4
kind_number Note = 1
kind_number Raise = 2
kind_number Handover = 3
kind_number Wake = 4
kind_number Delay = 0
kind_number Drop = 0

abbrev pub level : Plan → ArrowKind → ℕ
level plan kind = plan.shape.arrow_top + kind_number kind * plan.shape.arrow_step

-- which of the places beside a lane it takes, by the row in which it begins
abbrev pub track : Plan → Arrow → ℕ
track plan arrow = arrow.from % max plan.shape.tracks 1 * plan.shape.track

-- the edge at which it leaves its box, and the one at which it comes to the other
abbrev pub start : Plan → ℕ → ℕ → ℕ
start plan from to = if nat_lt to from then box_left plan from else box_right plan from

abbrev pub goal : Plan → ℕ → ℕ → ℕ
goal plan from to = if nat_lt from to then box_left plan to else box_right plan to

-- where it goes down: beside the lane that it leaves, on the side to which it goes
abbrev pub beside : Plan → Arrow → ℕ → ℕ → ℕ
beside plan arrow from to =
    plan.shape.gap + track plan arrow + box_right plan (if nat_lt to from then from - 1 else from)

-- the way of an arrow: from its box across, down beside the lane, and across to the other box
abbrev pub way : Plan → Arrow → ℕ → ℕ → Way
way plan arrow from to = record {
  from_x = start plan from to;
  from_y = row_top plan arrow.from + level plan arrow.kind;
  beside = beside plan arrow from to;
  to_y = row_top plan arrow.to + level plan arrow.kind;
  to_x = goal plan from to;
}

-- as a line on this way: where it begins, and how it goes on
unfoldable pub path_front : ArrowKind → Way → List ℕ
path_front kind way = arrow_element kind ++ decimal way.from_x ++ codes " " ++ decimal way.from_y

unfoldable pub path_end : Way → List ℕ
path_end way =
    codes "H" ++ decimal way.beside ++ codes "V" ++ decimal way.to_y ++ codes "H" ++ decimal way.to_x ++ codes "\"/>\n"

unfoldable pub path : ArrowKind → Way → List ℕ
path kind way = path_front kind way ++ path_end way

-- between two rows that are there
abbrev pub arrow_between : Plan → Arrow → Option Row → Option Row → List ℕ
arrow_between plan arrow None to = []
arrow_between plan arrow (Some from) None = []
arrow_between plan arrow (Some from) (Some to) = path arrow.kind (way plan arrow from.player to.player)

abbrev pub arrow_mark : Plan → List Row → Arrow → List ℕ
arrow_mark plan rows arrow = arrow_between plan arrow (slice_get rows arrow.from) (slice_get rows arrow.to)
