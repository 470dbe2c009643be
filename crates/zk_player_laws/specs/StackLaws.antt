use Rattle.std.specs.Prelude.{◌≡◌, ℕ, ◌==◌, ◌<◌, Bool, true, false, Some, List, [], ◌∷◌, length}
use Rattle.zk_base.specs.declared.ids.Who.{Who}
use Rattle.zk_base.specs.History.{entry}
use Rattle.zk_model_bus.specs.ChannelLaws.{ChanHistory}
use Rattle.zk_model_wait.specs.declared.clock.ClockOp.{ClockOp}
use Rattle.zk_model_wait.specs.declared.clock.ClockOp.TheVariants as clock_ops
use Rattle.zk_model_wait.specs.declared.clock.ClockReply.{ClockReply}
use Rattle.zk_model_wait.specs.declared.clock.ClockReply.TheVariants as clock_replies
use Rattle.zk_scenario.specs.Content.{Content}
use Rattle.zk_scenario.specs.Valid.{IsValid}
use Rattle.zk_worker.specs.Follows.{StepMade}
use Rattle.zk_worker.specs.declared.steps.Step.{Step}
use Rattle.zk_worker.specs.declared.steps.Step.TheVariants as steps
use Rattle.zk_worker.specs.declared.steps.StepReply.{StepReply}
use Rattle.zk_worker.specs.declared.steps.StepReply.TheVariants as step_replies
use Rattle.zk_worker.specs.declared.frames.TheConstants.{MOST_FRAMES}
use Rattle.zk_worker.specs.declared.frames.Frame.{Frame}
use Rattle.zk_worker.specs.declared.frames.Progress.{Progress}
use Rattle.zk_worker.specs.declared.frames.Progress.TheVariants.{Enters}
use Rattle.zk_worker.specs.Families.{with_entry, EachGrew, answer_at}
use Rattle.zk_worker.specs.Machines.{machines_of}
use Rattle.zk_worker.specs.Places.{PlayerPlace}
use Rattle.zk_worker.specs.Protocol.{IsAhead, after, frames_progress, start_at}

-- by object number the histories of the channels
abbrev pub ChanHistories : Type 0
ChanHistories = List ChanHistory

-- what the clock can tell
abbrev pub clock_may_tell : ClockOp → ClockReply → Bool
clock_may_tell (clock_ops.Announce ticks) (clock_replies.Now time) = true
clock_may_tell (clock_ops.Alarm ticks) (clock_replies.At moment) = true
clock_may_tell (clock_ops.AlarmEnd moment) clock_replies.Due = true
clock_may_tell op reply = false

-- the reply is of the service of the step
abbrev pub is_reply_to : Step → StepReply → Bool
is_reply_to (steps.Work op) (step_replies.Work reply place) = true
is_reply_to (steps.Clock op) (step_replies.Clock reply place) = clock_may_tell op reply
is_reply_to (steps.Table op) (step_replies.Table reply place) = true
is_reply_to (steps.Sem object op) (step_replies.Sem at reply place) = at == object
is_reply_to (steps.Msgq object op) (step_replies.Msgq at reply place) = at == object
is_reply_to (steps.Signal object op) (step_replies.Signal at reply place) = at == object
is_reply_to (steps.Chan object op) (step_replies.Chan at reply place) = at == object
is_reply_to (steps.Obs object op) (step_replies.Obs at reply place) = at == object
is_reply_to (steps.LookItem object) (step_replies.Flags flags at) = true
is_reply_to (steps.LookSignal object must) (step_replies.Seen seen) = true
is_reply_to step reply = false

-- a step at a channel is replied what its machine answers behind this history; of other services only which replies they have
abbrev pub IsReplied : Content → ChanHistories → Who → Step → StepReply → Type 0
IsReplied s chans who (steps.Chan object op) reply =
    answer_at (machines_of s).chans chans step_replies.Chan who object op ≡ Some reply
IsReplied s chans who step reply = is_reply_to step reply ≡ true

-- the histories with the entry of a step, where that is at a channel
abbrev pub chans_after : ChanHistories → Who → ℕ → Step → StepReply → ChanHistories
chans_after chans who number (steps.Chan object op) (step_replies.Chan at reply place) =
    with_entry chans object (entry who number op reply)
chans_after chans who number step reply = chans

-- the steps of a player from this place on: each is one of its next attempts, and is replied behind the entries of others that
-- came to the channels meanwhile
abbrev pub IsPlayedAmong : Content → ChanHistories → PlayerPlace → List StepMade → Type 0
IsPlayedAmong s chans at [] = Unit {0}
IsPlayedAmong s chans at (made ∷ more) =
    (found : ChanHistories) × (who : Who) × (who.number ≡ at.who.number) × EachGrew at.who.number chans found
    × IsAhead s at made.0 × IsReplied s found who made.0 made.1
    × IsPlayedAmong s (chans_after found who (length at.spots) made.0 made.1) (after s at made.0 made.1) more

-- where a script is entered there is room for it
abbrev pub HasRoomFor : List Frame → Progress → Type 0
HasRoomFor frames (Enters owner stage) = length frames < MOST_FRAMES
HasRoomFor frames progress = Unit {0}

-- and so it is at each of these steps
abbrev pub AlwaysHasRoom : Content → PlayerPlace → List StepMade → Type 0
AlwaysHasRoom s at [] = Unit {0}
AlwaysHasRoom s at (made ∷ more) =
    HasRoomFor at.frames (frames_progress s at.frames made.0 made.1)
    × AlwaysHasRoom s (after s at made.0 made.1) more

-- of each player of each valid scenario, whatever else its services do meanwhile: each script that it is to enter is entered
abbrev pub EachScriptIsEntered : Type 0
EachScriptIsEntered = (s : Content) (chans : ChanHistories) (number : ℕ) (at : PlayerPlace) (made : List StepMade) →
    IsValid s → start_at s number ≡ Some at → IsPlayedAmong s chans at made → AlwaysHasRoom s at made
