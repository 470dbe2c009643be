use Rattle.std.specs.Prelude.{◌≡◌, ℕ, Some, List, [], slice_get, All}
use Rattle.std.specs.List.{AllZip}
use Rattle.zk_scenario.specs.Content.{Content}
use Rattle.zk_worker.specs.declared.log.Log.{Log}
use Rattle.zk_worker.specs.Follows.{StepMade, Stands}
use Rattle.zk_worker.specs.Shown.{Shown}
use Rattle.zk_player_laws.specs.VisitLaws.{UsesOrIsRefused, AreOwned, AreAnswered}
use Rattle.zk_trace.specs.declared.trace.Trace.{Trace}
use Rattle.zk_trace.specs.Shown.{trace_shown}

-- by the steps that a log's spots stand for, each publish and notify that it has an answer of has visited the observers that
-- it was told, each read has read, or it was refused its channel; none of these steps uses a channel that the player doesn't
-- own, and each freeing ends such a call
pub record VisitsAsTold (s : Content) (shown : Shown) (log : Log) : Type 0 where
  pub made : List StepMade
  pub stands : AllZip (Stands shown) log.steps made
  pub publishes : All (UsesOrIsRefused s made) log.answers
  pub owned : AreOwned [] made
  pub answered : AreAnswered log.answers 0 made

-- the log of each player of a trace is such a one
abbrev pub EachVisitsAsTold : Content → Trace → Type 0
EachVisitsAsTold s t = (number : ℕ) (log : Log) → slice_get t.logs number ≡ Some log →
    VisitsAsTold s (trace_shown t) log
