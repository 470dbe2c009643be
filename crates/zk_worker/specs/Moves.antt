-- Inner: no contract of a top call is made of this file.
use Rattle.std.specs.Prelude.{◌≡◌, ℕ, Bool, true, false, Option, Some, None, List}
use Rattle.zk_line.specs.declared.events.Event.{Event}
use Rattle.zk_words.specs.declared.timeout.Timeout.{Timeout}
use Rattle.zk_words.specs.declared.word.Word.{Word}
use Rattle.zk_worker.specs.declared.answers.Answered.{Answered}
use Rattle.zk_worker.specs.declared.frames.Mark.{Mark}
use Rattle.zk_worker.specs.declared.frames.Mark.TheVariants.{Unasked}
use Rattle.zk_worker.specs.declared.frames.Moved.{Moved}
use Rattle.zk_worker.specs.declared.frames.Moved.TheVariants as moves
use Rattle.zk_worker.specs.declared.frames.Progress.{Progress}
use Rattle.zk_worker.specs.declared.frames.Progress.TheVariants.{Goes, Answers, Enters}
use Rattle.zk_worker.specs.declared.frames.Stage.{Stage}
use Rattle.zk_worker.specs.declared.frames.Stage.TheVariants.{Start, Polls}
use Rattle.zk_worker.specs.declared.steps.Step.{Step}
use Rattle.zk_worker.specs.declared.steps.StepReply.{StepReply}
use Rattle.zk_worker.specs.Polls.{polled}
use Rattle.zk_worker.specs.Protocol.{answers_after}
use Rattle.zk_worker.specs.Replies.{answer_of}

-- the stage of a frame behind what a reply does to it
abbrev pub stage_by : Progress → Stage
stage_by (Goes stage) = stage
stage_by (Answers word answer) = Start
stage_by (Enters owner stage) = stage

-- how it goes on from there
abbrev pub moved_by : Progress → Moved
moved_by (Goes stage) = moves.Goes
moved_by (Answers word answer) = moves.Answers
moved_by (Enters owner stage) = moves.Enters owner

-- what a reply does is done to a frame and to the answers, by the step of this number
pub record IsDone (number : ℕ) (progress : Progress) (told : Moved) (at : Stage)
    (old new : List Answered) : Type 0 where
  pub moved : told ≡ moved_by progress
  pub stage : at ≡ stage_by progress
  pub answers : new ≡ answers_after old number progress

-- what the first reply does to a call that waits from then on, since the entry of this place, or else is answered
abbrev pub opens_at : (ℕ → Stage) → Word → StepReply → Option ℕ → Progress
opens_at stage word reply (Some place) = Goes (stage place)
opens_at stage word reply None = Answers word (answer_of reply)

-- an event of a poll isn't asked yet
abbrev pub is_unasked : Mark → Bool
is_unasked Unasked = true
is_unasked mark = false

-- what the reply to a step does to a poll that has begun
abbrev pub poll_further : Word → Timeout → List Event → Stage → Step → StepReply → Progress
poll_further word timeout events (Polls alarm marks) made reply = polled word timeout events alarm marks made reply
poll_further word timeout events stage made reply = Goes stage
