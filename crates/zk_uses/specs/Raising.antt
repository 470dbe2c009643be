-- Inner: no contract of a top call is made of this file.
-- Callers that raise a signal.
use Rattle.std.specs.Prelude.{◌≡◌, ℕ, List, [], ◌∷◌, length, map}
use Rattle.zk_signal.specs.declared.signal.SharedSignal.{SharedSignal}
use Rattle.zk_signal.specs.Counts.{Rises}
use Rattle.zk_signal.specs.Passes.{IsPassOf, pass_players, pass_stamps}
use Rattle.zk_uses.specs.declared.raising.Raised.{Raised}
use Rattle.zk_uses.specs.declared.raising.Raiser.{Raiser}

-- the stamp of a write
abbrev pub stamp_of : Raised → ℕ
stamp_of raised = raised.stamp

-- the stamps of the writes that a caller has kept
abbrev pub stamps_of : Raiser → List ℕ
stamps_of raiser = map stamp_of raiser.writes.items

-- a caller has raised the signal so many times: it has kept the stamps of all its writes, and they rise
pub record HasRaised (signal : SharedSignal) (player times : ℕ) (raiser : Raiser) : Type 0 where
  pub own : IsPassOf signal raiser.pass
  pub players : pass_players raiser.pass ≡ player ∷ []
  pub stamps : stamps_of raiser ≡ pass_stamps raiser.pass
  pub count : length raiser.writes.items ≡ times
  pub rise : Rises (stamps_of raiser)
