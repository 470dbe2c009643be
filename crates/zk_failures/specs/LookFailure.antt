use Rattle.std.specs.Prelude.{◌≡◌, ℕ, ◌<◌, true, false, Bool, Some, slice_get}
use Rattle.zk_scenario.specs.Content.{Content}
use Rattle.zk_worker.specs.declared.steps.Spot.{Spot}
use Rattle.zk_worker.specs.declared.steps.Spot.TheVariants as spots
use Rattle.zk_worker.specs.Machines.{machines_of}
use Rattle.zk_worker.specs.Right.{IsRight, NotOlder}
use Rattle.zk_worker.specs.Shown.{is_look}
use Rattle.zk_trace.specs.declared.stood.Stood.{Stood}
use Rattle.zk_trace.specs.declared.trace.Trace.{Trace}
use Rattle.zk_trace.specs.Shown.{trace_shown}
use Rattle.zk_trace.specs.Stood.{stood}
use Rattle.zk_failures.specs.declared.site.Site.{Site}
use Rattle.zk_failures.specs.declared.site.Site.TheVariants.{Ending, Row, Player, Answer}
use Rattle.zk_failures.specs.First.{IsFirst}

-- whether it is a write to a signal
abbrev pub is_write : Spot → Bool
is_write (spots.Signal object place) = true
is_write spot = false

-- a line stands in a trace
abbrev pub IsRow : Trace → Stood → Type 0
IsRow t line = (place : ℕ) × (slice_get (stood t) place ≡ Some line)

-- a look is right: it found what was there, nothing older than what its player had seen in earlier steps, and nothing newer than
-- what its player wrote in later ones
pub record LookFits (s : Content) (t : Trace) (line : Stood) : Type 0 where
  pub right : IsRight (machines_of s) (trace_shown t) line.spot
  pub earlier : (other : Stood) → IsRow t other → other.player ≡ line.player → other.step < line.step → NotOlder other.spot line.spot
  pub later : (other : Stood) → IsRow t other → other.player ≡ line.player → line.step < other.step → is_write other.spot ≡ true →
      NotOlder line.spot other.spot

-- the line at a place is a look that isn't right
pub record IsWrong (s : Content) (t : Trace) (place : ℕ) : Type 0 where
  pub line : Stood
  pub there : slice_get (stood t) place ≡ Some line
  pub look : is_look line.spot ≡ true
  pub wrong : LookFits s t line → ⊥

-- the first such line
abbrev pub IsLookFailure : Content → Trace → Site → Type 0
IsLookFailure s t (Row place) = IsFirst (IsWrong s t) place
IsLookFailure s t (Player player) = ⊥
IsLookFailure s t (Answer player place) = ⊥
IsLookFailure s t Ending = ⊥
