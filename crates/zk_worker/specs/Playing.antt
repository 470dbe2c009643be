-- Inner: no contract of a top call is made of this file.
use Rattle.std.specs.Prelude.{◌≡◌, ℕ, ◌<◌, Bool, true, false, Option, Some, None, List, length, slice_get}
use Rattle.zk_base.specs.declared.ids.Who.{Who}
use Rattle.zk_base.specs.Causes.{Rose}
use Rattle.zk_scenario.specs.Content.{Content}
use Rattle.zk_worker.specs.declared.steps.Step.{Step}
use Rattle.zk_worker.specs.declared.steps.StepReply.{StepReply}
use Rattle.zk_worker.specs.declared.playing.Stepped.{Stepped}
use Rattle.zk_worker.specs.declared.playing.Stepped.TheVariants.{Did, NotYet, Ended, Spent}
use Rattle.zk_worker.specs.Places.{PlayerPlace}
use Rattle.zk_worker.specs.Protocol.{attempts, after, IsAhead}
use Rattle.zk_worker.specs.Follows.{is_spent_at, is_through}
use Rattle.zk_worker.specs.Machines.{Machines}
use Rattle.zk_worker.specs.Shown.{Shown, OnlyOthersCame}
use Rattle.zk_worker.specs.Attempt.{reply_in, Counts, IsMade}

-- a step was tried between two moments: its service counted the attempt, and the machine says that it isn't possible
-- at what was shown at a moment between
pub record WasTried (alone : Bool) (m : Machines) (who : Who) (old new : Shown)
    (counts counts' : Counts) (step : Step) : Type 0 where
  pub found : Shown
  pub since : OnlyOthersCame alone who.number old found
  pub until : OnlyOthersCame alone who.number found new
  pub impossible : reply_in m found who step ≡ None
  pub rose : Rose (counts step) (counts' step)

-- one of a player's next attempts wanted memory, and none that wants none where this is shown
abbrev pub HasWanted : (Machines → Shown → Who → Step → Bool) → Machines → Shown → Content → PlayerPlace → Type 0
HasWanted wants_none m shown s at =
    (step : Step) × IsAhead s at step × (wants_none m shown at.who step ≡ false)

-- so many of these attempts, from the first, were tried
abbrev pub WereTried : Bool → Machines → Who → List Step → ℕ → Shown → Shown → Counts → Counts →
    Type 0
WereTried alone m who ahead many old new counts counts' =
    (k : ℕ) (step : Step) → k < many → slice_get ahead k ≡ Some step →
    WasTried alone m who old new counts counts' step

-- one of these attempts was made, and each earlier one was tried
pub record WasFirst (alone : Bool) (m : Machines) (who : Who) (number : ℕ) (ahead : List Step)
    (step : Step) (reply : StepReply) (old new : Shown) (counts counts' : Counts) : Type 0 where
  pub index : ℕ
  pub is_there : slice_get ahead index ≡ Some step
  pub made : IsMade alone m who number step reply old new
  pub tried : WereTried alone m who ahead index old made.found counts counts'

-- each of these attempts was tried
pub record WasNone (alone : Bool) (m : Machines) (who : Who) (ahead : List Step) (old new : Shown)
    (counts counts' : Counts) : Type 0 where
  pub others : OnlyOthersCame alone who.number old new
  pub tried : WereTried alone m who ahead (length ahead) old new counts counts'

-- the step that was made and its reply, where there are both
abbrev pub made_of : Option StepReply → Option Step → Option (Step × StepReply)
made_of None ahead = None
made_of (Some reply) None = None
made_of (Some reply) (Some step) = Some (step, reply)

-- what comes of these attempts, made in order up to the first that is possible
abbrev pub Tried : Bool → Machines → Who → ℕ → List Step → Shown → Shown → Counts → Counts →
    Option (Step × StepReply) → Type 0
Tried alone m who number ahead old new counts counts' (Some made) =
    WasFirst alone m who number ahead made.0 made.1 old new counts counts'
Tried alone m who number ahead old new counts counts' None =
    WasNone alone m who ahead old new counts counts'

-- a player made the step that was possible first
pub record HasStepped (alone : Bool) (m : Machines) (s : Content) (at at' : PlayerPlace) (old new : Shown)
    (counts counts' : Counts) : Type 0 where
  pub step : Step
  pub reply : StepReply
  pub first : WasFirst alone m at.who (length at.spots) (attempts s at) step reply old new counts
      counts'
  pub next : at' ≡ after s at step reply

-- a player that isn't through and has steps left found none of them possible
pub record HasWaited (alone : Bool) (m : Machines) (s : Content) (at at' : PlayerPlace) (old new : Shown)
    (counts counts' : Counts) : Type 0 where
  pub unspent : is_spent_at s at ≡ false
  pub not_through : is_through at.frames ≡ false
  pub none : WasNone alone m at.who (attempts s at) old new counts counts'
  pub unchanged : at' ≡ at

-- a player has no further step, for this cause, and nothing changed
pub record HasStopped (at at' : PlayerPlace) (old new : Shown) (cause : Bool) : Type 0 where
  pub because : cause ≡ true
  pub unchanged : at' ≡ at
  pub nothing : new ≡ old

-- what a step of a player did, by its answer
abbrev pub StepOutcome : Bool → Machines → Content → PlayerPlace → PlayerPlace → Shown → Shown → Counts → Counts → Stepped →
    Type 0
StepOutcome alone m s at at' old new counts counts' Did =
    HasStepped alone m s at at' old new counts counts'
StepOutcome alone m s at at' old new counts counts' NotYet =
    HasWaited alone m s at at' old new counts counts'
StepOutcome alone m s at at' old new counts counts' Ended =
    (is_spent_at s at ≡ false) × HasStopped at at' old new (is_through at.frames)
StepOutcome alone m s at at' old new counts counts' Spent = HasStopped at at' old new (is_spent_at s at)
