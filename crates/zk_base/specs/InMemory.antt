-- Inner: no contract of a top call is made of this file.
use Rattle.std.specs.Prelude.{ℕ, List}

-- a source over memory: the bytes left, the most that one call gives, the calls that fail, the calls so far, and its faults
pub record SourceView : Type 0 where
  pub left : List ℕ
  pub piece : ℕ
  pub failing : List ℕ
  pub calls : ℕ
  pub faults : ℕ

-- a sink over memory: the bytes held, how many more fit, the most that one call takes, the calls that fail,
-- the calls so far, and its faults
pub record SinkView : Type 0 where
  pub held : List ℕ
  pub room : ℕ
  pub piece : ℕ
  pub failing : List ℕ
  pub calls : ℕ
  pub faults : ℕ
