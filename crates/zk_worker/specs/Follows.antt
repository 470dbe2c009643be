use Rattle.std.specs.Prelude.{◌≡◌, ℕ, Bool, true, false, nat_le, if◌then◌else◌, Option, Some, None, List, [], ◌∷◌, length, slice_get, option_map}
use Rattle.std.specs.List.{AllZip}
use Rattle.zk_scenario.specs.Content.{Content}
use Rattle.zk_scenario.specs.Steps.{steps_of}
use Rattle.zk_worker.specs.declared.steps.Step.{Step}
use Rattle.zk_worker.specs.declared.steps.Step.TheVariants as steps
use Rattle.zk_worker.specs.declared.steps.StepReply.{StepReply}
use Rattle.zk_worker.specs.declared.steps.StepReply.TheVariants as step_replies
use Rattle.zk_worker.specs.declared.steps.Spot.{Spot}
use Rattle.zk_worker.specs.declared.steps.Spot.TheVariants as spots
use Rattle.zk_worker.specs.declared.frames.Stage.{Stage}
use Rattle.zk_worker.specs.declared.frames.Stage.TheVariants.{Start}
use Rattle.zk_worker.specs.declared.frames.Role.{Role}
use Rattle.zk_worker.specs.declared.frames.Role.TheVariants.{Worker}
use Rattle.zk_worker.specs.declared.checks.Mode.{Mode}
use Rattle.zk_worker.specs.declared.checks.Mode.TheVariants.{Dead}
use Rattle.zk_worker.specs.declared.frames.Frame.{Frame}
use Rattle.zk_worker.specs.declared.log.PlayerState.{PlayerState}
use Rattle.zk_worker.specs.declared.log.PlayerState.TheVariants.{Spent, Oops, Done, Standing}
use Rattle.zk_worker.specs.declared.log.Log.{Log}
use Rattle.zk_worker.specs.Places.{PlayerPlace}
use Rattle.zk_worker.specs.Families.{entry_at}
use Rattle.zk_worker.specs.Shown.{Shown}
use Rattle.zk_worker.specs.Protocol.{IsAhead, after, start_at}

-- whether a worker stands between two runs
abbrev pub is_between : Role → Stage → Bool
is_between (Worker queue) Start = true
is_between role stage = false

-- whether a thread is through its script, or a worker between two runs
abbrev pub is_done : List Frame → Bool
is_done [] = true
is_done (frame ∷ []) = is_between frame.role frame.stage
is_done frames = false

-- whether a thread is through its script; a worker never is
abbrev pub is_through : List Frame → Bool
is_through [] = true
is_through frames = false

-- whether a player of a scenario has made all its steps
abbrev pub is_spent_at : Content → PlayerPlace → Bool
is_spent_at s at = nat_le (steps_of s) (length at.spots)

-- whether a check has ended a player
abbrev pub is_dead : Mode → Bool
is_dead Dead = true
is_dead mode = false

-- the state of a player: the first that applies
abbrev pub state_at : Content → PlayerPlace → PlayerState
state_at s at =
    if is_spent_at s at then Spent else
    if is_dead at.mode then Oops else
    if is_done at.frames then Done else Standing

-- what is logged of a player
abbrev pub log_of : Content → PlayerPlace → Log
log_of s at = record { state = state_at s at; steps = at.spots; answers = at.answers }

-- a step that was made, with its reply
abbrev pub StepMade : Type 0
StepMade = Step × StepReply

-- these steps with their replies lead from one place of a player to another, each of them being one of the next
-- attempts of those before it
abbrev pub IsPlayed : Content → PlayerPlace → List StepMade → PlayerPlace → Type 0
IsPlayed s at [] end = at ≡ end
IsPlayed s at (made ∷ more) end =
    IsAhead s at made.0 × IsPlayed s (after s at made.0 made.1) more end

-- the step and the reply whose entry is at a spot; a look has none
abbrev pub made_at : Shown → Spot → Option StepMade
made_at shown (spots.Work place) =
    option_map (λ e. (steps.Work e.op, step_replies.Work e.reply place))
    (slice_get shown.work place)
made_at shown (spots.Clock place) =
    option_map (λ e. (steps.Clock e.op, step_replies.Clock e.reply place))
    (slice_get shown.clock place)
made_at shown (spots.Table place) =
    option_map (λ e. (steps.Table e.op, step_replies.Table e.reply place))
    (slice_get shown.table place)
made_at shown (spots.Sem object place) =
    option_map (λ e. (steps.Sem object e.op, step_replies.Sem object e.reply place))
    (entry_at shown.sems object place)
made_at shown (spots.Msgq object place) =
    option_map (λ e. (steps.Msgq object e.op, step_replies.Msgq object e.reply place))
    (entry_at shown.msgqs object place)
made_at shown (spots.Signal object place) =
    option_map (λ e. (steps.Signal object e.op, step_replies.Signal object e.reply place))
    (entry_at shown.signals object place)
made_at shown (spots.Chan object place) =
    option_map (λ e. (steps.Chan object e.op, step_replies.Chan object e.reply place))
    (entry_at shown.chans object place)
made_at shown (spots.Obs object place) =
    option_map (λ e. (steps.Obs object e.op, step_replies.Obs object e.reply place))
    (entry_at shown.observers object place)
made_at shown (spots.LookItem object flags at) = None
made_at shown (spots.LookSignal object seen) = None

-- a spot stands for a step with its reply. That of a look at a signal doesn't tell whether it had to find the signal raised;
-- where it had to, it did
abbrev pub Stands : Shown → Spot → StepMade → Type 0
Stands shown (spots.LookItem object flags at) made =
    made ≡ (steps.LookItem object, step_replies.Flags flags at)
Stands shown (spots.LookSignal object seen) made =
    (must : Bool) × (made ≡ (steps.LookSignal object must, step_replies.Seen seen))
    × (must ≡ true → seen.raised ≡ true)
Stands shown spot made = made_at shown spot ≡ Some made

-- a step with its reply stands at this spot, and what stood at a spot stands there still
pub record StandsMore (old new : Shown) (spot : Spot) (made : StepMade) : Type 0 where
  pub here : Stands new spot made
  pub still : (at : Spot) (other : StepMade) → Stands old at other → Stands new at other

-- a player is where the protocol leads it from its start, by the steps and replies that its spots stand for
pub record IsFollowing (s : Content) (number : ℕ) (shown : Shown) (at : PlayerPlace) : Type 0 where
  pub start : PlayerPlace
  pub made : List StepMade
  pub starts : start_at s number ≡ Some start
  pub stands : AllZip (Stands shown) at.spots made
  pub played : IsPlayed s start made at

-- the log of a player follows the scenario: it is the log of a place to which the protocol leads
pub record Follows (s : Content) (number : ℕ) (shown : Shown) (log : Log) : Type 0 where
  pub end : PlayerPlace
  pub led : IsFollowing s number shown end
  pub logged : log_of s end ≡ log
