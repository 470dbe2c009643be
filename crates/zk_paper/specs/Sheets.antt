-- Inner: no contract of a top call is made of this file.
use Rattle.std.specs.Prelude.{ℕ, List}

-- a text that goes on: what stood there, and what was put behind it
pub record Sheet : Type 0 where
  pub front : List ℕ
  pub put : List ℕ
