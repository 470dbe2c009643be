use Rattle.std.specs.Prelude.{◌≡◌, ◌⊎◌, ℕ, false, Some, List, [], slice_get, All}
use Rattle.std.specs.List.{AllZip}
use Rattle.zk_scenario.specs.Content.{Content}
use Rattle.zk_worker.specs.declared.log.Log.{Log}
use Rattle.zk_player_laws.specs.CallLaws.{AreOfCalls, IsCallOf, IsUseOf}
use Rattle.zk_worker.specs.Checks.{is_oops}
use Rattle.zk_worker.specs.Follows.{StepMade, Stands, IsPlayed, log_of}
use Rattle.zk_worker.specs.Places.{PlayerPlace}
use Rattle.zk_worker.specs.Protocol.{start_at}
use Rattle.zk_worker.specs.Shown.{Shown}
use Rattle.zk_trace.specs.declared.trace.Trace.{Trace}
use Rattle.zk_trace.specs.Shown.{trace_shown}

-- the steps that a log's spots stand for lead the player from its start to the place that is logged; each is of a run, a
-- check, or one that its next call has to make; and each call that is answered made just the steps of its form, side by
-- side, or its last one used a channel, as a publish, a notify or a read does that has it
pub record MakesItsCalls (s : Content) (number : ℕ) (shown : Shown) (log : Log) : Type 0 where
  pub start : PlayerPlace
  pub starts : start_at s number ≡ Some start
  pub made : List StepMade
  pub stands : AllZip (Stands shown) log.steps made
  pub end : PlayerPlace
  pub led : IsPlayed s start made end
  pub logged : log_of s end ≡ log
  pub steps : AreOfCalls s number [] start made
  pub answered : All (λ a. is_oops a.answer ≡ false → IsCallOf s number made a ⊎ IsUseOf made a) log.answers

-- the log of each player of a trace is such a one
abbrev pub EachMakesItsCalls : Content → Trace → Type 0
EachMakesItsCalls s t = (number : ℕ) (log : Log) → slice_get t.logs number ≡ Some log →
    MakesItsCalls s number (trace_shown t) log
