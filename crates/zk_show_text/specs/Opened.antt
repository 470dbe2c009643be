-- Inner: no contract of a top call is made of this file.
use Rattle.std.specs.Prelude.{◌≡◌, ℕ, ◌<◌, ◌≤◌, List, Some, slice_get, length, take}
use Rattle.std.specs.List.{All, filter}
use Rattle.zk_show_chart.specs.declared.chart.Bar.{Bar}
use Rattle.zk_show_text.specs.Marks.{is_open}

-- so many bars don't begin below a row, and these of them go through it
pub record AreOpened (row : ℕ) (bars : List Bar) (next : ℕ) (open_bars : List Bar) : Type 0 where
  pub within : next ≤ length bars
  pub begun : All (λ b. b.first ≤ row) (take next bars)
  pub these : open_bars ≡ filter (is_open row) (take next bars)

-- the bar at a place, if there is one, begins below a row
abbrev pub IsBelow : ℕ → List Bar → ℕ → Type 0
IsBelow row bars place = (bar : Bar) → slice_get bars place ≡ Some bar → row < bar.first
