use Rattle.std.specs.Prelude.{ℕ, ◌<◌, List}
use Rattle.std.specs.List.{AllPairs}
use Rattle.zk_show_chart.specs.declared.chart.Arrow.{Arrow}

-- an arrow leads down, to one of so many rows
pub record IsArrow (rows : ℕ) (arrow : Arrow) : Type 0 where
  pub down : arrow.from < arrow.to
  pub within : arrow.to < rows

-- at most one arrow leads to each row; they stand by the rows to which they lead
abbrev pub AreByRow : List Arrow → Type 0
AreByRow arrows = AllPairs (λ a b. a.to < b.to) arrows
