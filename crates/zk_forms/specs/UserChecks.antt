use Rattle.std.specs.Prelude.{◌≡◌, ℕ, true, Some, List, [], slice_get}
use Rattle.std.specs.List.{AllZip}
use Rattle.zk_scenario.specs.Content.{Content}
use Rattle.zk_worker.specs.declared.log.Log.{Log}
use Rattle.zk_worker.specs.declared.log.PlayerState.TheVariants.{Oops}
use Rattle.zk_player_laws.specs.CheckLaws.{AreChecked, has_oops, EndedByOops}
use Rattle.zk_worker.specs.declared.checks.Mode.TheVariants.{Dead}
use Rattle.zk_worker.specs.Follows.{StepMade, Stands, IsPlayed, log_of}
use Rattle.zk_worker.specs.Places.{PlayerPlace}
use Rattle.zk_worker.specs.Protocol.{start_at}
use Rattle.zk_worker.specs.Shown.{Shown}
use Rattle.zk_trace.specs.declared.trace.Trace.{Trace}
use Rattle.zk_trace.specs.Shown.{trace_shown}

-- by the steps that a log's spots stand for, which lead the player from its start to the place that is logged, each
-- check is one that a user's call has to make next, and each other step of a user's call comes behind all its checks;
-- wherever a step, an answer or the place says that a check has ended the player, as it does of each that is told so,
-- one has: as its last step, which its last answer tells
pub record ChecksFirst (s : Content) (number : ℕ) (shown : Shown) (log : Log) : Type 0 where
  pub start : PlayerPlace
  pub starts : start_at s number ≡ Some start
  pub made : List StepMade
  pub stands : AllZip (Stands shown) log.steps made
  pub end : PlayerPlace
  pub led : IsPlayed s start made end
  pub logged : log_of s end ≡ log
  pub checked : AreChecked s number [] start made
  pub told : log.state ≡ Oops → end.mode ≡ Dead
  pub ended : has_oops made end ≡ true → EndedByOops s number made end

-- the log of each player of a trace is such a one
abbrev pub EachChecksFirst : Content → Trace → Type 0
EachChecksFirst s t = (number : ℕ) (log : Log) → slice_get t.logs number ≡ Some log →
    ChecksFirst s number (trace_shown t) log
