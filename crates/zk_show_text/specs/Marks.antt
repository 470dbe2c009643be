use Rattle.std.specs.Prelude.{ℕ, zero, suc, ◌+◌, ◌==◌, ◌&&◌, nat_le, nat_lt, Bool, true, false, Option, Some, None, List, [], ◌∷◌, if◌then◌else◌}
use Rattle.std.specs.List.{filter, list_any}
use Rattle.zk_show_chart.specs.declared.chart.Bar.{Bar}
use Rattle.zk_show_chart.specs.declared.chart.BarKind.{BarKind}
use Rattle.zk_show_chart.specs.declared.chart.BarKind.TheVariants as kinds

-- whether a bar doesn't end above a row: a listener's script is over above the step that tells so
abbrev pub reaches : ℕ → BarKind → Option ℕ → Bool
reaches row kind None = true
reaches row kinds.Script (Some last) = nat_lt row last
reaches row kind (Some last) = nat_le row last

-- whether a row is one of a bar's
abbrev pub is_open : ℕ → Bar → Bool
is_open row bar = nat_le bar.first row && reaches row bar.kind bar.last

-- the bars that go through a row
abbrev pub open_at : ℕ → List Bar → List Bar
open_at row bars = filter (is_open row) bars

-- whether a bar is that of a wait
abbrev pub is_wait : BarKind → Bool
is_wait kinds.Wait = true
is_wait kind = false

-- the mark of a lane: a colon where one of these bars is a wait of it, a stroke where another is its, and else a space
abbrev pub mark_of : List Bar → ℕ → ℕ
mark_of bars lane =
    if list_any (λ b. b.player == lane && is_wait b.kind) bars then 58
    else if list_any (λ b. b.player == lane) bars then 124 else 32

-- the mark of a lane with one bar more
abbrev pub marked : BarKind → ℕ → ℕ
marked kinds.Wait mark = 58
marked kind mark = if mark == 58 then 58 else 124

-- the marks of so many lanes from one on
abbrev pub marks_from : List Bar → ℕ → ℕ → List ℕ
marks_from bars lane zero = []
marks_from bars lane (suc lanes) = mark_of bars lane ∷ marks_from bars (lane + 1) lanes
