-- Inner: no contract of a top call is made of this file.
use Rattle.std.specs.Prelude.{◌≡◌, ℕ, Some, List, length, slice_get}
use Rattle.zk_scenario.specs.Content.{Content}
use Rattle.zk_worker.specs.Follows.{IsFollowing, log_of}
use Rattle.zk_worker.specs.Places.{PlayerPlace}
use Rattle.zk_trace.specs.declared.trace.Trace.{Trace}
use Rattle.zk_trace.specs.Shown.{trace_shown}

-- the player of a number stands where its log leads it
pub record IsPlayedOut (s : Content) (t : Trace) (number : ℕ) (at : PlayerPlace) : Type 0 where
  pub led : IsFollowing s number (trace_shown t) at
  pub logged : slice_get t.logs number ≡ Some (log_of s at)

-- each of these players does, by number
abbrev pub EachPlayedOut : Content → Trace → List PlayerPlace → Type 0
EachPlayedOut s t players = (number : ℕ) (at : PlayerPlace) → slice_get players number ≡ Some at → IsPlayedOut s t number at

-- these are all players, and each stands where its log leads it
abbrev pub ArePlayedOut : Content → Trace → List PlayerPlace → Type 0
ArePlayedOut s t players = (length players ≡ length t.logs) × EachPlayedOut s t players
