-- When a reply suits its step, an answer its word, and a stage its call.
use Rattle.std.proofs.Common.{◌≡◌, inl, inr, ◌<◌, true, List, [], ◌∷◌, length, sym, subst}
use Rattle.std.specs.List.{AllByRecursion}
use Rattle.zk_base.specs.Messages.{is_message}
use Rattle.zk_line.specs.declared.events.TheConstants.{MOST_EVENTS}
use Rattle.zk_line.specs.declared.types.Decl.{Decl}
use Rattle.zk_words.specs.declared.word.Word.{Word}
use Rattle.zk_worker.specs.declared.answers.Answer.{Answer}
use Rattle.zk_worker.specs.declared.frames.Plan.{Plan}
use Rattle.zk_worker.specs.declared.frames.Plan.TheVariants.{Channel}
use Rattle.zk_worker.specs.declared.frames.Progress.{Progress}
use Rattle.zk_worker.specs.declared.frames.Progress.TheVariants.{Goes, Answers, Enters}
use Rattle.zk_worker.specs.declared.frames.Stage.{Stage}
use Rattle.zk_worker.specs.declared.frames.Stage.TheVariants as stages
use Rattle.zk_worker.specs.declared.frames.Using.TheVariants.{Read}
use Rattle.zk_worker.specs.declared.steps.Step.{Step}
use Rattle.zk_worker.specs.declared.steps.Step.TheVariants as steps
use Rattle.zk_worker.specs.declared.steps.StepReply.{StepReply}
use Rattle.zk_worker.specs.declared.steps.StepReply.TheVariants as step_replies
use Rattle.zk_trace.specs.AnswerRead.{FitsAnswer}
use Rattle.zk_blocks.specs.Choices.{IsIn}
use Rattle.zk_trace.specs.LookRead.{can_be_seen}
use Rattle.zk_trace.specs.Parts.{answer_part}
use Rattle.zk_trace.specs.Sized.{IsSizedPart}
use Rattle.zk_trace.specs.Work as work
use Rattle.zk_trace.specs.WorkRead as work_read
use Rattle.zk_trace.specs.Clock as clock
use Rattle.zk_trace.specs.ClockRead as clock_read
use Rattle.zk_trace.specs.Table as table
use Rattle.zk_trace.specs.TableRead as table_read
use Rattle.zk_trace.specs.Sem as sem
use Rattle.zk_trace.specs.SemRead as sem_read
use Rattle.zk_trace.specs.Msgq as msgq
use Rattle.zk_trace.specs.MsgqRead as msgq_read
use Rattle.zk_trace.specs.Signal as signal
use Rattle.zk_trace.specs.SignalRead as signal_read
use Rattle.zk_trace.specs.Chan as chan
use Rattle.zk_trace.specs.ChanRead as chan_read
use Rattle.zk_trace.specs.Obs as obs
use Rattle.zk_trace.specs.ObsRead as obs_read

-- what holds of each of some holds of one of them
pub in-each : {R : Type 0} (P : R → Type 0) (rs : List R) → AllByRecursion P rs → (r : R) → IsIn r rs → P r
in-each P [] all r is = absurd is
in-each P (x ∷ xs) all r (inl is) = subst P (sym is) all.0
in-each P (x ∷ xs) all r (inr more) = in-each P xs all.1 r more

module _ (decls : List Decl) where
  -- the reply to a step is of its operation; and a look found what can be
  abbrev pub Told : Step → StepReply → Type 0
  Told (steps.Work op) (step_replies.Work r place) = work_read.AnswersTo decls (work.said_of op).0 r
  Told (steps.Clock op) (step_replies.Clock r place) = clock_read.AnswersTo decls (clock.said_of op).0 r
  Told (steps.Table op) (step_replies.Table r place) = table_read.AnswersTo decls (table.said_of op).0 r
  Told (steps.Sem object op) (step_replies.Sem at r place) = sem_read.AnswersTo decls (sem.said_of op).0 r
  Told (steps.Msgq object op) (step_replies.Msgq at r place) = msgq_read.AnswersTo decls (msgq.said_of op).0 r
  Told (steps.Signal object op) (step_replies.Signal at r place) = signal_read.AnswersTo decls (signal.said_of op).0 r
  Told (steps.Chan object op) (step_replies.Chan at r place) = chan_read.AnswersTo decls (chan.said_of op).0 r
  Told (steps.Obs object op) (step_replies.Obs at r place) = obs_read.AnswersTo decls (obs.said_of op).0 r
  Told (steps.LookItem object) (step_replies.Flags flags at) = flags < 32
  Told (steps.LookSignal object must) (step_replies.Seen seen) = can_be_seen seen ≡ true
  Told step reply = ⊥

  -- an answer is of its word, if its numbers are within their types
  abbrev pub Suits : Word → Answer → Type 0
  Suits word answer = IsSizedPart (answer_part answer) → FitsAnswer decls word answer

  -- what a call that has come so far holds: no more than it can, a message that is one, and as many marks as a poll has
  abbrev pub StageSuits : Stage → Plan → Type 0
  StageSuits (stages.Reads message) (Channel chan Read timeout) = is_message message ≡ true
  StageSuits (stages.Reads message) plan = ⊥
  StageSuits (stages.Visits left full) (Channel chan Read timeout) = ⊥
  StageSuits (stages.Visits left full) plan = Unit {0}
  StageSuits (stages.Polls alarm marks) plan = length marks ≡ MOST_EVENTS
  StageSuits stage plan = Unit {0}

  -- so it is of what a step does to its call
  abbrev pub ProgressSuits : Plan → Progress → Type 0
  ProgressSuits plan (Goes stage) = StageSuits stage plan
  ProgressSuits plan (Answers word answer) = Suits word answer
  ProgressSuits plan (Enters owner stage) = StageSuits stage plan
