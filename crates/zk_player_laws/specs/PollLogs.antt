use Rattle.std.specs.Prelude.{◌≡◌, ℕ, ◌+◌, ◌≤◌, false, Some, List, ◌∷◌, ◌++◌, length, slice_get, All}
use Rattle.zk_line.specs.declared.events.Event.{Event}
use Rattle.zk_line.specs.declared.types.Call.TheVariants as calls
use Rattle.zk_base.specs.Legal.{IsLegal}
use Rattle.zk_model_wait.specs.Clock.{new_clock, clock_machine}
use Rattle.zk_model_wait.specs.Msgq.{new_msgq, msgq_machine}
use Rattle.zk_model_wait.specs.MsgqLaws.{MsgqHistory}
use Rattle.zk_model_wait.specs.Sem.{new_sem, sem_machine}
use Rattle.zk_model_wait.specs.SemLaws.{SemHistory}
use Rattle.zk_scenario.specs.Content.{Content}
use Rattle.zk_scenario.specs.Players.{calls_of}
use Rattle.zk_scenario.specs.Valid.{IsValid}
use Rattle.zk_words.specs.declared.timeout.Timeout.{Timeout}
use Rattle.zk_words.specs.declared.word.Word.TheVariants as words
use Rattle.zk_worker.specs.declared.answers.Answered.{Answered}
use Rattle.zk_worker.specs.declared.frames.Frame.{Frame}
use Rattle.zk_worker.specs.declared.frames.Role.TheVariants.{Script}
use Rattle.zk_worker.specs.declared.frames.Stage.{Stage}
use Rattle.zk_worker.specs.declared.steps.Step.{Step}
use Rattle.zk_player_laws.specs.CheckLaws.{BeginsCall}
use Rattle.zk_worker.specs.Checks.{is_oops}
use Rattle.zk_worker.specs.Follows.{StepMade, IsFollowing}
use Rattle.zk_worker.specs.Places.{PlayerPlace}
use Rattle.zk_player_laws.specs.PollLaws.{IsAnswered, KeepsPollLaws, GoesOn}
use Rattle.zk_worker.specs.Protocol.{frames_attempts}
use Rattle.zk_worker.specs.Shown.{Shown, ShowsLog}

-- a poll that a player answered: the player stood at its beginning, it was the next call of the innermost open script, and its
-- play are the steps from there to the one that was answered
pub record IsPollOf (s : Content) (number : ℕ) (made : List StepMade) (a : Answered) : Type 0 where
  pub owner : ℕ
  pub next : ℕ
  pub timeout : Timeout
  pub events : List Event
  pub below : List Frame
  pub before : List StepMade
  pub play : List StepMade
  pub rest : List StepMade
  pub whole : made ≡ before ++ (play ++ rest)
  pub last : a.step + 1 ≡ length before + length play
  pub begins : BeginsCall s number before owner next (calls.Poll timeout events) below
  pub answered : IsAnswered a.word timeout events play a.answer

-- each poll that a player answered, in whatever is shown, is the answer of a play among its steps; one whose check failed isn't
-- played
abbrev pub EachPollIsPlayed : Type 0
EachPollIsPlayed = (s : Content) (number : ℕ) (shown : Shown) (at : PlayerPlace) (is : IsFollowing s number shown at) →
    All (λ a. a.word ≡ words.Poll → is_oops a.answer ≡ false → IsPollOf s number is.made a) at.answers

-- what is shown of the clock, of semaphores and of message queues are legal histories of such
pub record ShowsLegal (shown : Shown) : Type 0 where
  pub clock : IsLegal clock_machine new_clock shown.clock
  pub sems : (object : ℕ) (h : SemHistory) → slice_get shown.sems object ≡ Some h →
      (initial : ℕ) × (limit : ℕ) × (initial ≤ limit) × IsLegal sem_machine (new_sem initial limit) h
  pub msgqs : (object : ℕ) (h : MsgqHistory) → slice_get shown.msgqs object ≡ Some h →
      (most : ℕ) × IsLegal msgq_machine (new_msgq most) h

-- such a poll keeps the laws of polls
pub record IsLawfulPollOf (s : Content) (number : ℕ) (made : List StepMade) (a : Answered) : Type 0 where
  pub of : IsPollOf s number made a
  pub laws : KeepsPollLaws of.timeout of.events of.play a.answer

-- each poll that a player of a valid scenario answered does so, where its steps are shown among legal histories
abbrev pub EachPollKeepsItsLaws : Type 0
EachPollKeepsItsLaws = (s : Content) (number : ℕ) (shown : Shown) (at : PlayerPlace) (is : IsFollowing s number shown at) →
    IsValid s → ShowsLog shown number at.spots → ShowsLegal shown →
    All (λ a. a.word ≡ words.Poll → is_oops a.answer ≡ false → IsLawfulPollOf s number is.made a) at.answers

-- a poll that has no answer yet: the player stood at its beginning, all steps since are its play so far, and the poll goes on by its
-- laws, with these next attempts
pub record IsOpenPoll (s : Content) (number : ℕ) (made : List StepMade) (owner next : ℕ) (timeout : Timeout) (events : List Event)
    (below : List Frame) (attempts : List Step) : Type 0 where
  pub before : List StepMade
  pub play : List StepMade
  pub whole : made ≡ before ++ play
  pub begins : BeginsCall s number before owner next (calls.Poll timeout events) below
  pub laws : GoesOn timeout events play attempts

-- where a player that has made these steps stands at a poll, this goes on by its laws
abbrev pub PollGoesOn : Content → ℕ → List StepMade → PlayerPlace → Type 0
PollGoesOn s number made at = (owner next : ℕ) (stage : Stage) (timeout : Timeout) (events : List Event) (below : List Frame) →
    at.frames ≡ record { role = Script owner; next = next; stage = stage } ∷ below →
    slice_get (calls_of s.scripts owner) next ≡ Some (calls.Poll timeout events) →
    IsOpenPoll s number made owner next timeout events below (frames_attempts s at.frames)

-- so it is with each player of a valid scenario, where its steps are shown among legal histories
abbrev pub EachOpenPollGoesOn : Type 0
EachOpenPollGoesOn = (s : Content) (number : ℕ) (shown : Shown) (at : PlayerPlace) (is : IsFollowing s number shown at) →
    IsValid s → ShowsLog shown number at.spots → ShowsLegal shown → PollGoesOn s number is.made at
