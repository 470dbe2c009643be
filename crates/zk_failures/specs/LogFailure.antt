use Rattle.std.specs.Prelude.{◌≡◌, ℕ, ◌<◌, Some, length, slice_get, take}
use Rattle.zk_scenario.specs.Content.{Content}
use Rattle.zk_worker.specs.declared.answers.Answered.{Answered}
use Rattle.zk_worker.specs.declared.log.Log.{Log}
use Rattle.zk_worker.specs.declared.steps.Spot.{Spot}
use Rattle.zk_worker.specs.Follows.{StepMade, Stands, IsFollowing, Follows, log_of}
use Rattle.zk_worker.specs.Places.{PlayerPlace}
use Rattle.zk_worker.specs.Protocol.{IsAhead}
use Rattle.zk_trace.specs.declared.stood.Stood.{Stood}
use Rattle.zk_trace.specs.declared.trace.Trace.{Trace}
use Rattle.zk_trace.specs.Shown.{trace_shown}
use Rattle.zk_trace.specs.Stood.{stood}
use Rattle.zk_failures.specs.declared.site.Site.{Site}
use Rattle.zk_failures.specs.declared.site.Site.TheVariants.{Ending, Row, Player, Answer}
use Rattle.zk_failures.specs.First.{IsFirst, HoldsNowhere}

-- a player is led here by the first so many steps of its log
pub record IsLed (s : Content) (t : Trace) (player : ℕ) (log : Log) (steps : ℕ) (here : PlayerPlace) : Type 0 where
  pub logged : slice_get t.logs player ≡ Some log
  pub led : IsFollowing s player (trace_shown t) here
  pub by : here.spots ≡ take steps log.steps

-- from where the steps before it lead a player, its step of this number isn't one of the next attempts
pub record IsAstray (s : Content) (t : Trace) (player step : ℕ) : Type 0 where
  pub log : Log
  pub here : PlayerPlace
  pub led : IsLed s t player log step here
  pub spot : Spot
  pub next : slice_get log.steps step ≡ Some spot
  pub astray : (made : StepMade) → Stands (trace_shown t) spot made → IsAhead s here made.0 → ⊥

-- the line at a place is that of a player's step
pub record IsRowOf (t : Trace) (player step place : ℕ) : Type 0 where
  pub line : Stood
  pub there : slice_get (stood t) place ≡ Some line
  pub player_is : line.player ≡ player
  pub step_is : line.step ≡ step

-- all steps of a player lead it somewhere, where its answer at a place of its log isn't the one that it has there
pub record IsOtherAnswer (s : Content) (t : Trace) (player place : ℕ) : Type 0 where
  pub log : Log
  pub here : PlayerPlace
  pub led : IsLed s t player log (length log.steps) here
  pub answer : Answered
  pub there : slice_get log.answers place ≡ Some answer
  pub other : slice_get here.answers place ≡ Some answer → ⊥

-- all steps of a player lead it somewhere, where it has more answers, or doesn't stand so
pub record IsOtherEnd (s : Content) (t : Trace) (player : ℕ) : Type 0 where
  pub log : Log
  pub here : PlayerPlace
  pub led : IsLed s t player log (length log.steps) here
  pub other : log_of s here ≡ log → ⊥

-- the first line of a player that isn't so: a step, then an answer, then how it stands
abbrev pub FailsLog : Content → Trace → ℕ → Site → Type 0
FailsLog s t player (Row place) = (step : ℕ) × IsAstray s t player step × IsRowOf t player step place
FailsLog s t player (Answer of place) = (of ≡ player) × IsFirst (IsOtherAnswer s t player) place
FailsLog s t player (Player of) = (of ≡ player) × HoldsNowhere (IsOtherAnswer s t player) × IsOtherEnd s t player
FailsLog s t player Ending = ⊥

-- the log of a player follows the scenario
abbrev pub IsGood : Content → Trace → ℕ → Type 0
IsGood s t player = (log : Log) → slice_get t.logs player ≡ Some log → Follows s player (trace_shown t) log

-- the first such line of the first player of whom there is one
pub record IsLogFailure (s : Content) (t : Trace) (site : Site) : Type 0 where
  pub player : ℕ
  pub fails : FailsLog s t player site
  pub first : (earlier : ℕ) → earlier < player → IsGood s t earlier
