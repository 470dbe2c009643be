use Rattle.std.specs.Prelude.{ℕ, ◌+◌, ◌-◌, ◌*◌, ◌/◌, ◌^◌, min, ◌==◌, ◌||◌, Bool, true, false, List, [], ◌∷◌, ◌++◌, length, take, drop, position, codes, decimal, if◌then◌else◌, Option, Some, None}
use Rattle.std.specs.Str.{bytes_eq}
use Rattle.zk_show_chart.specs.declared.chart.Row.{Row}
use Rattle.zk_show_chart.specs.Answers.{has_died, has_failed}
use Rattle.zk_show_svg.specs.declared.plan.Plan.{Plan}
use Rattle.zk_show_svg.specs.Escapes.{escaped, cut}
use Rattle.zk_show_svg.specs.Places.{box_left, row_top, placed, sized}

-- a step's line without the word `look` at its front
abbrev pub behind_look : List ℕ → List ℕ
behind_look text = if bytes_eq (take 5 text) (codes "look ") then drop 5 text else text

-- whose step it is: what stands before the first space
abbrev pub before : List ℕ → Option ℕ → List ℕ
before line (Some at) = take at line
before line None = line

abbrev pub who : List ℕ → List ℕ
who text = before (behind_look text) (position (λ b. b == 32) (behind_look text))

-- what was done and answered: what stands behind it
abbrev pub behind : List ℕ → Option ℕ → List ℕ
behind line (Some at) = drop (at + 1) line
behind line None = []

abbrev pub words : List ℕ → List ℕ
words text = behind (behind_look text) (position (λ b. b == 32) (behind_look text))

-- the name of a service, where the operation doesn't name all that it acts on
abbrev pub shown_service : List ℕ → List ℕ
shown_service service = if bytes_eq service (codes "work") || bytes_eq service (codes "table") then [] else service

-- what is shown where the pointer rests on a step: the number of its line, its service, and its line as it is
unfoldable pub tip_front : List ℕ
tip_front = codes "<g class=\"r\"><title>line "

unfoldable pub tip : Row → List ℕ
tip row =
    tip_front ++ decimal row.line ++ codes ", " ++ escaped row.service.now ++ codes ": " ++ escaped row.text.now
    ++ codes "</title>"

-- what begins its box, or its dot where a lane is narrow: of a step that failed another one
abbrev pub box_element : Bool → Bool → List ℕ
box_element true false = codes "<rect class=\"b\""
box_element true true = codes "<rect class=\"b f\""
box_element false false = codes "<rect class=\"d\""
box_element false true = codes "<rect class=\"d f\""

-- its box, in its player's lane
unfoldable pub box_mark : Plan → ℕ → ℕ → Bool → List ℕ
box_mark plan player top failed =
    placed (box_element plan.shape.is_wide failed) (box_left plan player) (top + plan.shape.box_top)
    ++ sized plan.shape.box_width plan.shape.box_height ++ codes " rx=\"" ++ decimal plan.shape.box_round ++ codes "\"/>"

-- a cross below it, where its player was ended by it
unfoldable pub cross : ℕ → ℕ → List ℕ
cross left top = codes "<path class=\"x\" d=\"M" ++ decimal left ++ codes " " ++ decimal top ++ codes "l8 8m0 -8l-8 8\"/>"

abbrev pub cross_mark : Plan → ℕ → ℕ → Bool → List ℕ
cross_mark plan player top died = if died then cross (box_left plan player) (top + 25) else []

-- whose step it is, where the words stand beside the lanes
unfoldable pub who_mark : Plan → List ℕ → ℕ → List ℕ
who_mark plan text top =
    if plan.shape.is_wide then [] else placed (codes "<text") 68 (top + 15) ++ codes ">" ++ escaped (who text) ++ codes "</text>"

-- where its words begin, and for how many letters there is room
abbrev pub words_left : Plan → ℕ → ℕ
words_left plan player = if plan.shape.is_wide then box_left plan player + 5 else 68 + (plan.longest + 7) * 66 / 10

abbrev pub letters : Plan → ℕ
letters plan = if plan.shape.is_wide then (plan.shape.box_width - 10) * 10 / 66 else 74 - (plan.longest + 7)

-- its words behind the name of its service
unfoldable pub served : List ℕ → List ℕ → ℕ → List ℕ
served service words room =
    codes "<tspan class=\"s\">" ++ cut 16 service ++ codes "</tspan> " ++ cut (room - length service - 1) words

-- its words, behind the name of its service where there is one to be shown
unfoldable pub said : List ℕ → List ℕ → ℕ → List ℕ
said service words room =
    if length service == 0 then cut room words else served service words room

unfoldable pub words_mark : Plan → Row → ℕ → List ℕ
words_mark plan row top =
    placed (codes "<text") (words_left plan row.player) (top + 15) ++ codes ">"
    ++ said (shown_service row.service.now) (words row.text.now) (letters plan) ++ codes "</text>"

-- the number of its line
unfoldable pub line_mark : ℕ → ℕ → List ℕ
line_mark line top = placed (codes "<text class=\"n\"") 60 (top + 15) ++ codes ">" ++ decimal line ++ codes "</text></g>\n"

-- all that is drawn of a step, in its row
unfoldable pub step_mark : Plan → ℕ → Row → List ℕ
step_mark plan place row =
    tip row ++ box_mark plan row.player (row_top plan place) (has_failed (words row.text.now))
    ++ cross_mark plan row.player (row_top plan place) (has_died (words row.text.now)) ++ who_mark plan row.text.now (row_top plan place)
    ++ words_mark plan row (row_top plan place) ++ line_mark row.line (row_top plan place)

-- the last row that can be told apart from the others
abbrev pub last_row : ℕ
last_row = 2 ^ 32 - 1

-- all steps from a row on, each in the next row
abbrev pub step_marks : Plan → ℕ → List Row → List ℕ
step_marks plan place [] = []
step_marks plan place (row ∷ rows) = step_mark plan (min place last_row) row ++ step_marks plan (place + 1) rows
