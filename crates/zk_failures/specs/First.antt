use Rattle.std.specs.Prelude.{ℕ, ◌<◌}

-- the first number of which this holds
pub record IsFirst (Fails : ℕ → Type 0) (place : ℕ) : Type 0 where
  pub fails : Fails place
  pub none_before : (earlier : ℕ) → earlier < place → Fails earlier → ⊥

-- it holds of no number
abbrev pub HoldsNowhere : (ℕ → Type 0) → Type 0
HoldsNowhere Fails = (place : ℕ) → Fails place → ⊥
