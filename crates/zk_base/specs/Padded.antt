-- Inner: no contract of a top call is made of this file.
use Rattle.std.specs.Prelude.{◌≡◌, ℕ, ◌-◌, ◌≤◌, Bool, true, List, ◌++◌, length, take, drop, replicate}

-- bytes with zeros behind them up to a width
abbrev pub padded : ℕ → List ℕ → List ℕ
padded width bytes = bytes ++ replicate (width - length bytes) 0

-- right bytes fill the front of so many, and zeros the rest
pub record IsPadded (width : ℕ) (is_right : List ℕ → Bool) (bytes : List ℕ) (len : ℕ) : Type 0 where
  pub long : length bytes ≡ width
  pub within : len ≤ width
  pub zeros : drop len bytes ≡ replicate (width - len) 0
  pub right : is_right (take len bytes) ≡ true
