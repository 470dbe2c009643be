-- Inner: no contract of a top call is made of this file.
use Rattle.std.specs.Prelude.{◌≡◌, ℕ, Bool, true, ◌==◌, nat_lt, ◌||◌, Some, List, slice_get, count_by}
use Rattle.std.specs.HashSet as sets
use Rattle.std.specs.List.{list_any}
use Rattle.zk_trace.specs.declared.stood.Stood.{Stood}
use Rattle.zk_trace.specs.Stood.{is_of}
use Rattle.zk_failures.specs.declared.own.Own.{Own}
use Rattle.zk_failures.specs.Standing.{is_step, last_of, above_of}

-- these are what the lines of a player are so far: their steps, the last of them, how many they are, and how high they go
pub record IsOwn (player : ℕ) (lines : List Stood) (own : Own) : Type 0 where
  pub steps : (step : ℕ) → sets.contains (λ k other. k == other) own.steps step ≡ list_any (is_step player step) lines
  pub last : own.last ≡ last_of player lines
  pub rows : own.rows ≡ count_by (is_of player) lines
  pub above : own.above ≡ above_of player lines

-- and of each player
abbrev pub AreOwn : List Stood → List Own → Type 0
AreOwn lines owns = (player : ℕ) (own : Own) → slice_get owns player ≡ Some own → IsOwn player lines own

-- whether the steps of a player aren't 0, 1, 2 and on, where they differ, or are more than it may make
abbrev pub has_gap : ℕ → Own → Bool
has_gap most own = nat_lt own.rows own.above || nat_lt most own.rows

-- the player of a number has a gap
pub record IsGapAt (most : ℕ) (owns : List Own) (player : ℕ) : Type 0 where
  pub own : Own
  pub there : slice_get owns player ≡ Some own
  pub gap : has_gap most own ≡ true
