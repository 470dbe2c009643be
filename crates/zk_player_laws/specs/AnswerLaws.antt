use Rattle.std.specs.Prelude.{◌≡◌, ◌⊎◌, ℕ, Some, List, [], ◌∷◌, ◌++◌, length, slice_get}
use Rattle.zk_line.specs.Calls.{word_of}
use Rattle.zk_line.specs.declared.types.Call.{Call}
use Rattle.zk_scenario.specs.Content.{Content}
use Rattle.zk_scenario.specs.Players.{calls_of}
use Rattle.zk_worker.specs.declared.answers.Answered.{Answered}
use Rattle.zk_worker.specs.declared.frames.Frame.{Frame}
use Rattle.zk_worker.specs.declared.frames.Role.TheVariants.{Script}
use Rattle.zk_worker.specs.declared.frames.Stage.{Stage}
use Rattle.zk_worker.specs.Follows.{StepMade, IsFollowing}
use Rattle.zk_worker.specs.Places.{PlayerPlace}
use Rattle.zk_worker.specs.Protocol.{after}
use Rattle.zk_worker.specs.Shown.{Shown}

-- an answer that the step behind these gives, of a player that has these scripts open: it has the number of that step, and the
-- word of the innermost script's next call
pub record IsAnswerOf (s : Content) (front : List StepMade) (frames : List Frame) (a : Answered) : Type 0 where
  pub owner : ℕ
  pub next : ℕ
  pub stage : Stage
  pub below : List Frame
  pub stood : frames ≡ record { role = Script owner; next = next; stage = stage } ∷ below
  pub call : Call
  pub is_call : slice_get (calls_of s.scripts owner) next ≡ Some call
  pub is_step : a.step ≡ length front
  pub is_word : a.word ≡ word_of call

-- that step leaves the answers as they were, or adds this one at their end
abbrev pub AnswersOnce : Content → List StepMade → List Frame → List Answered → List Answered → Type 0
AnswersOnce s front frames old new =
    (new ≡ old) ⊎ ((a : Answered) × (new ≡ old ++ a ∷ []) × IsAnswerOf s front frames a)

-- and so does each of these steps, which go on from a place of the player, behind those in front
abbrev pub AreAnsweredOnce : Content → List StepMade → PlayerPlace → List StepMade → Type 0
AreAnsweredOnce s front at [] = Unit {0}
AreAnsweredOnce s front at (made ∷ more) =
    AnswersOnce s front at.frames at.answers (after s at made.0 made.1).answers
    × AreAnsweredOnce s (front ++ made ∷ []) (after s at made.0 made.1) more

-- of each player that follows a scenario, whatever is shown: it starts without answers, and each of its steps adds one at most,
-- at their end, which is that step's and its call's
abbrev pub EachIsAnsweredOnce : Type 0
EachIsAnsweredOnce = (s : Content) (number : ℕ) (shown : Shown) (at : PlayerPlace) (is : IsFollowing s number shown at) →
    (is.start.answers ≡ []) × AreAnsweredOnce s [] is.start is.made
