use Rattle.std.specs.Prelude.{ℕ, ◌+◌, ◌-◌, ◌*◌, ◌/◌, nat_lt, max, List, ◌++◌, codes, decimal, if◌then◌else◌}
use Rattle.zk_show_svg.specs.declared.plan.Plan.{Plan}

-- the left edge of a player's lane
abbrev pub lane_left : Plan → ℕ → ℕ
lane_left plan player = 68 + (if plan.shape.is_wide then 0 else 500) + player * plan.shape.pitch

-- the left edge of a step's box, and the right one
abbrev pub box_left : Plan → ℕ → ℕ
box_left plan player = lane_left plan player + plan.shape.box_left

abbrev pub box_right : Plan → ℕ → ℕ
box_right plan player = box_left plan player + plan.shape.box_width

-- how often the lanes' names stand again above a row: above each forty, where the picture has more than sixty
abbrev pub bands_above : Plan → ℕ → ℕ
bands_above plan row = if nat_lt 60 plan.rows then row / 40 else 0

-- the width of the picture: at least that of the legend
abbrev pub width : Plan → ℕ
width plan = max 780 (lane_left plan plan.lanes + 16)

-- the top of a row, below the lanes' names
abbrev pub row_top : Plan → ℕ → ℕ
row_top plan row = 174 + (bands_above plan row + 1) * plan.shape.band + row * 22

-- the bottom of the last row
abbrev pub bottom : Plan → ℕ
bottom plan = row_top plan (plan.rows - 1) + 22

-- an element that begins so, and stands there
abbrev pub placed : List ℕ → ℕ → ℕ → List ℕ
placed element x y = element ++ codes " x=\"" ++ decimal x ++ codes "\" y=\"" ++ decimal y ++ codes "\""

-- it is so large
abbrev pub sized : ℕ → ℕ → List ℕ
sized width height = codes " width=\"" ++ decimal width ++ codes "\" height=\"" ++ decimal height ++ codes "\""
