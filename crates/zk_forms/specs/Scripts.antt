use Rattle.std.specs.Prelude.{◌≡◌, ℕ, Some, List, slice_get}
use Rattle.std.specs.List.{AllZip}
use Rattle.zk_scenario.specs.Content.{Content}
use Rattle.zk_worker.specs.declared.log.Log.{Log}
use Rattle.zk_worker.specs.Follows.{StepMade, Stands}
use Rattle.zk_worker.specs.Places.{PlayerPlace}
use Rattle.zk_worker.specs.Protocol.{start_at}
use Rattle.zk_worker.specs.Shown.{Shown}
use Rattle.zk_player_laws.specs.StackLaws.{AlwaysHasRoom}
use Rattle.zk_trace.specs.declared.trace.Trace.{Trace}
use Rattle.zk_trace.specs.Shown.{trace_shown}

-- by the steps that a log's spots stand for its player entered each script that it was to enter, from its start on
pub record EntersItsScripts (s : Content) (shown : Shown) (number : ℕ) (log : Log) : Type 0 where
  pub start : PlayerPlace
  pub made : List StepMade
  pub starts : start_at s number ≡ Some start
  pub stands : AllZip (Stands shown) log.steps made
  pub room : AlwaysHasRoom s start made

-- and so did each player of a trace
abbrev pub EachEntersItsScripts : Content → Trace → Type 0
EachEntersItsScripts s t = (number : ℕ) (log : Log) → slice_get t.logs number ≡ Some log →
    EntersItsScripts s (trace_shown t) number log
