use Rattle.std.specs.Prelude.{◌≡◌, ℕ, List, ◌++◌}

-- what was there stands in front of what is there now
pub record StaysInFront (old new : List ℕ) : Type 0 where
  pub more : List ℕ
  pub behind : new ≡ old ++ more
