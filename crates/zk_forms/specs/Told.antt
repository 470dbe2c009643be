use Rattle.std.specs.Prelude.{◌≡◌, ℕ, Some, List, [], slice_get}
use Rattle.std.specs.List.{AllZip}
use Rattle.zk_scenario.specs.Content.{Content}
use Rattle.zk_worker.specs.declared.log.Log.{Log}
use Rattle.zk_player_laws.specs.AnswerLaws.{AreAnsweredOnce}
use Rattle.zk_worker.specs.Follows.{StepMade, Stands, IsPlayed, log_of}
use Rattle.zk_worker.specs.Places.{PlayerPlace}
use Rattle.zk_worker.specs.Protocol.{start_at}
use Rattle.zk_worker.specs.Shown.{Shown}
use Rattle.zk_player_laws.specs.StateLaws.{IsStateOf}
use Rattle.zk_trace.specs.declared.trace.Trace.{Trace}
use Rattle.zk_trace.specs.Shown.{trace_shown}

-- the steps that a log's spots stand for lead the player from its start, where it has no answers, to the place that is logged;
-- each adds one answer at most, which is its own and its call's; and the log has all steps and answers of that place, and tells
-- the player's state there
pub record TellsItsPlayer (s : Content) (number : ℕ) (shown : Shown) (log : Log) : Type 0 where
  pub start : PlayerPlace
  pub starts : start_at s number ≡ Some start
  pub made : List StepMade
  pub stands : AllZip (Stands shown) log.steps made
  pub end : PlayerPlace
  pub led : IsPlayed s start made end
  pub logged : log_of s end ≡ log
  pub steps : log.steps ≡ end.spots
  pub answers : log.answers ≡ end.answers
  pub unanswered : start.answers ≡ []
  pub answered : AreAnsweredOnce s [] start made
  pub state : IsStateOf s made end log.state

-- the log of each player of a trace is such a one
abbrev pub EachTellsItsPlayer : Content → Trace → Type 0
EachTellsItsPlayer s t = (number : ℕ) (log : Log) → slice_get t.logs number ≡ Some log →
    TellsItsPlayer s number (trace_shown t) log
