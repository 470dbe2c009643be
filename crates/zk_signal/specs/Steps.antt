-- Inner: no contract of a top call is made of this file.
-- What each atomic step tells the seat that makes it.
use Rattle.std.specs.Prelude.{◌≡◌, ℕ, ◌+◌, ◌<◌, ◌≤◌}
use Rattle.atomic_table.specs.Table.{Me, Step}
use Rattle.zk_signal.specs.declared.views.View.{View}
use Rattle.zk_signal.specs.Limits.{most_stamps}
use Rattle.zk_signal.specs.Views.{drawing, settled, looked, top_of}
use Rattle.zk_signal.specs.Words.{IsTidy, seen_in, stamp_in}

-- draw: the stamp after those drawn is the seat's, above all that it has written or found
pub record Draws (step : Step ℕ) (old : Me ℕ View) (found : ℕ) (new : Me ℕ View) : Type 0 where
  pub now : new ≡ (drawing old.0 (found + 1), old.1)
  pub above : top_of old.0 ≤ found
  pub few : found < most_stamps

-- settle: the word is among the writes of the seat
abbrev pub Settles : Step ℕ → Me ℕ View → ℕ → Me ℕ View → Type 0
Settles step old found new = new ≡ (settled old.0 step.first, old.1)

-- look: the word that was found is no older than all that the seat has written or found
pub record Looks (step : Step ℕ) (old : Me ℕ View) (found : ℕ) (new : Me ℕ View) : Type 0 where
  pub now : new ≡ (looked old.0 found, old.1)
  pub not_older : top_of old.0 ≤ stamp_in found
  pub few : stamp_in found ≤ most_stamps
  pub tidy : IsTidy (seen_in found)
