use Rattle.std.specs.Prelude.{◌≡◌, ℕ, Bool, List, [], length}
use Rattle.std.specs.Bool.{MatchBool}
use Rattle.std.specs.List.{slice_index_or, range_with_len}
use Rattle.zk_trace.specs.declared.stood.Stood.{Stood}
use Rattle.zk_show_order.specs.Order.{line_at, IsOrder, HasNoOrder}
use Rattle.zk_show_chart.specs.declared.chart.Row.{Row}

-- the places of some lines in the order in which they are drawn: one that agrees with all, or where there is none that of the text
abbrev pub AreDrawn : List Stood → Bool → List ℕ → Type 0
AreDrawn lines agrees order =
    MatchBool agrees (IsOrder lines order) (HasNoOrder lines × (order ≡ range_with_len 0 (length lines)))

-- what a row says: whose step it is, and which, and the number, the service and the text of its line
abbrev pub row_said : Row → ℕ × ℕ × ℕ × List ℕ × List ℕ
row_said row = (row.player, row.step, row.line, row.service.now, row.text.now)

-- the same of the step at a place, by what is said of the lines of all steps
abbrev pub said_of : List Stood → List (ℕ × List ℕ × List ℕ) → ℕ → ℕ × ℕ × ℕ × List ℕ × List ℕ
said_of steps lines place =
    let step = line_at steps place in
    let line = slice_index_or lines place (0, [], []) in
    (step.player, step.step, line.0, line.1, line.2)
