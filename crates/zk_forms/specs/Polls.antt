use Rattle.std.specs.Prelude.{◌≡◌, ℕ, false, Some, List, slice_get, All}
use Rattle.std.specs.List.{AllZip}
use Rattle.zk_scenario.specs.Content.{Content}
use Rattle.zk_words.specs.declared.word.Word.TheVariants as words
use Rattle.zk_worker.specs.declared.log.Log.{Log}
use Rattle.zk_worker.specs.Checks.{is_oops}
use Rattle.zk_worker.specs.Follows.{StepMade, Stands, IsPlayed, log_of}
use Rattle.zk_worker.specs.Places.{PlayerPlace}
use Rattle.zk_player_laws.specs.PollLogs.{IsLawfulPollOf, PollGoesOn}
use Rattle.zk_worker.specs.Protocol.{start_at}
use Rattle.zk_worker.specs.Shown.{Shown}
use Rattle.zk_trace.specs.declared.trace.Trace.{Trace}
use Rattle.zk_trace.specs.Shown.{trace_shown}

-- the steps that a log's spots stand for lead the player from its start to the place that is logged; each poll that is answered
-- has its play among them, from where the player stood at its beginning, and keeps the laws of polls, unless a check failed
-- that came before it; and where the player stands at a poll that has no answer yet, this goes on by those laws
pub record KeepsPolls (s : Content) (number : ℕ) (shown : Shown) (log : Log) : Type 0 where
  pub start : PlayerPlace
  pub starts : start_at s number ≡ Some start
  pub made : List StepMade
  pub stands : AllZip (Stands shown) log.steps made
  pub end : PlayerPlace
  pub led : IsPlayed s start made end
  pub logged : log_of s end ≡ log
  pub polls : All (λ a. a.word ≡ words.Poll → is_oops a.answer ≡ false → IsLawfulPollOf s number made a) log.answers
  pub goes_on : PollGoesOn s number made end

-- the log of each player of a trace is such a one
abbrev pub EachKeepsPolls : Content → Trace → Type 0
EachKeepsPolls s t = (number : ℕ) (log : Log) → slice_get t.logs number ≡ Some log →
    KeepsPolls s number (trace_shown t) log
