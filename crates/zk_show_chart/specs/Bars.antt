use Rattle.std.specs.Prelude.{◌≡◌, ℕ, ◌+◌, ◌<◌, Bool, false, List, ◌++◌, map, Option, Some, None, IfSome, slice_get}
use Rattle.std.specs.List.{All, AllPairs, filter}
use Rattle.std.specs.Option.{option_to_list}
use Rattle.zk_trace.specs.declared.stood.Stood.{Stood}
use Rattle.zk_show_chart.specs.declared.chart.Bar.{Bar}
use Rattle.zk_show_chart.specs.declared.chart.BarKind.{BarKind}
use Rattle.zk_show_chart.specs.Marks.{is_run}

-- the players of the rows
abbrev pub players_of : List Stood → List ℕ
players_of drawn = map (λ s. s.player) drawn

-- a bar's rows are rows of its player, and it ends below the row in which it begins
pub record IsBar (players : List ℕ) (bar : Bar) : Type 0 where
  pub first : slice_get players bar.first ≡ Some bar.player
  pub below : IfSome bar.last (λ last. bar.first < last)
  pub last : IfSome bar.last (λ last. slice_get players last ≡ Some bar.player)

-- it begins above this row
pub record IsAbove (players : List ℕ) (row : ℕ) (bar : Bar) : Type 0 where
  pub is : IsBar players bar
  pub above : bar.first < row

-- where a bar begins, and what it is
abbrev pub start : Bar → BarKind × ℕ
start bar = (bar.kind, bar.first)

-- the starts of bars are by their rows, and in each row begins at most one
abbrev pub AreInOrder : List (BarKind × ℕ) → Type 0
AreInOrder starts = AllPairs (λ a b. a.1 < b.1) starts

-- the rows in which runs begin
abbrev pub runs_of : List (BarKind × ℕ) → List ℕ
runs_of starts = map (λ s. s.1) (filter (λ s. is_run s.0) starts)

-- whether a bar that begins, if one does, is a run
abbrev pub begins_run : Option BarKind → Bool
begins_run None = false
begins_run (Some kind) = is_run kind

-- what begins in a row
abbrev pub starts_in : ℕ → Option BarKind → List (BarKind × ℕ)
starts_in row begun = map (λ kind. (kind, row)) (option_to_list begun)

-- bars of a player end in a row, and none begins
pub record Ends (player row : ℕ) (old new : List Bar) : Type 0 where
  pub starts : map start new ≡ map start old
  pub each : (players : List ℕ) → slice_get players row ≡ Some player → All (IsAbove players row) old → All (IsAbove players row) new

-- a step of a player in a row: bars of it end there, and at most one begins, a run where this is true
pub record Steps (player row : ℕ) (runs : Bool) (old new : List Bar) : Type 0 where
  pub begun : Option BarKind
  pub run : begins_run begun ≡ runs
  pub starts : map start new ≡ map start old ++ starts_in row begun
  pub each : (players : List ℕ) → slice_get players row ≡ Some player → All (IsAbove players row) old → All (IsAbove players (row + 1)) new
