use Rattle.std.specs.Prelude.{◌≡◌, ℕ, Some, List, [], slice_get}
use Rattle.std.specs.List.{AllZip}
use Rattle.zk_scenario.specs.Content.{Content}
use Rattle.zk_worker.specs.declared.log.Log.{Log}
use Rattle.zk_worker.specs.Follows.{StepMade, Stands, IsPlayed, log_of}
use Rattle.zk_worker.specs.Places.{PlayerPlace}
use Rattle.zk_worker.specs.Protocol.{start_at}
use Rattle.zk_worker.specs.Shown.{Shown}
use Rattle.zk_player_laws.specs.AttemptLaws.{AlwaysGoesOn}
use Rattle.zk_trace.specs.declared.trace.Trace.{Trace}
use Rattle.zk_trace.specs.Shown.{trace_shown}

-- by the steps that a log's spots stand for, which lead the player from its start to the place that is logged, it attempted just
-- what came next before each of them, and at that place it does so too
pub record AttemptsItsCalls (s : Content) (number : ℕ) (shown : Shown) (log : Log) : Type 0 where
  pub start : PlayerPlace
  pub starts : start_at s number ≡ Some start
  pub made : List StepMade
  pub stands : AllZip (Stands shown) log.steps made
  pub end : PlayerPlace
  pub led : IsPlayed s start made end
  pub logged : log_of s end ≡ log
  pub goes_on : AlwaysGoesOn s number start [] start made

-- the log of each player of a trace is such a one
abbrev pub EachAttemptsItsCalls : Content → Trace → Type 0
EachAttemptsItsCalls s t = (number : ℕ) (log : Log) → slice_get t.logs number ≡ Some log →
    AttemptsItsCalls s number (trace_shown t) log
