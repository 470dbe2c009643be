-- Inner: no contract of a top call is made of this file.
use Rattle.std.specs.Prelude.{◌≡◌, Bool, true, Option, Some}
use Rattle.zk_worker.specs.declared.steps.Spot.{Spot}
use Rattle.zk_worker.specs.declared.steps.Spot.TheVariants as spots
use Rattle.zk_worker.specs.declared.steps.Step.{Step}
use Rattle.zk_worker.specs.declared.steps.Step.TheVariants as steps
use Rattle.zk_worker.specs.declared.steps.StepReply.TheVariants as step_replies
use Rattle.zk_worker.specs.Follows.{StepMade, made_at}
use Rattle.zk_worker.specs.Shown.{Shown}

-- the step and the reply that stand at a spot: a look at a signal as one that had to find it raised, where it did
abbrev pub found_at : Shown → Spot → Option StepMade
found_at shown (spots.LookItem object flags at) = Some (steps.LookItem object, step_replies.Flags flags at)
found_at shown (spots.LookSignal object seen) = Some (steps.LookSignal object seen.raised, step_replies.Seen seen)
found_at shown spot = made_at shown spot

-- an attempt can be the step that was found: a look needn't have had to find the signal raised
abbrev pub IsFor : Step → Step → Type 0
IsFor attempt (steps.LookSignal object raised) = (must : Bool) × (attempt ≡ steps.LookSignal object must) × (must ≡ true → raised ≡ true)
IsFor attempt step = attempt ≡ step
