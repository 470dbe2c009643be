-- Inner: no contract of a top call is made of this file.
use Rattle.std.specs.Prelude.{◌≡◌, ℕ, ◌<◌, Bool, true, false, Option, Some, None, is_some, length}
use Rattle.zk_base.specs.declared.ids.Who.{Who}
use Rattle.zk_scenario.specs.Content.{Content}
use Rattle.zk_worker.specs.declared.steps.Step.{Step}
use Rattle.zk_worker.specs.declared.steps.StepReply.{StepReply}
use Rattle.zk_worker.specs.declared.playing.Stepped.{Stepped}
use Rattle.zk_worker.specs.declared.playing.Stepped.TheVariants as stepped
use Rattle.zk_worker.specs.Places.{PlayerPlace}
use Rattle.zk_worker.specs.Protocol.{after}
use Rattle.zk_worker.specs.Machines.{Machines, machines_of}
use Rattle.zk_worker.specs.Shown.{Shown, shown_after}
use Rattle.zk_replay.specs.declared.turns.Turn.{Turn}
use Rattle.zk_replay.specs.declared.turns.Turn.TheVariants as turns
use Rattle.zk_replay.specs.declared.turns.RoundEnd.{RoundEnd}
use Rattle.zk_replay.specs.declared.turns.RoundEnd.TheVariants.{Still, Goes, Spent}
use Rattle.zk_worker.specs.Choosing.{chosen}
use Rattle.zk_world.specs.Ready.{IsReady, all_left}
use Rattle.zk_world.specs.World.{World, is_spent}
use Rattle.zk_replay.specs.RoundRobin.{turn, turns, round}

-- what is shown after a turn
abbrev pub shown_with : Shown → Who → ℕ → Option (Step × StepReply) → Shown
shown_with shown who number None = shown
shown_with shown who number (Some made) = shown_after shown who number made.0 made.1

-- where a player stands after a turn
abbrev pub at_after : Content → PlayerPlace → Option (Step × StepReply) → PlayerPlace
at_after s at None = at
at_after s at (Some made) = after s at made.0 made.1

-- what a turn of a player leaves, and whether it made a step
pub record IsTurn (m : Machines) (s : Content) (at at' : PlayerPlace) (old new : Shown) (moved : Bool)
    : Type 0 where
  pub place : at' ≡ at_after s at (chosen m s old at)
  pub shows : new ≡ shown_with old at.who (length at.spots) (chosen m s old at)
  pub moves : moved ≡ is_some (chosen m s old at)

-- whether a turn made a step
abbrev pub has_moved : Turn → Bool
has_moved turns.Rested = false
has_moved turns.Moved = true
has_moved turns.Spent = true

-- whether it was the last one that the player may make
abbrev pub has_spent : Turn → Bool
has_spent turns.Rested = false
has_spent turns.Moved = false
has_spent turns.Spent = true

-- whether a step was made
abbrev pub made_step : Stepped → Bool
made_step stepped.Did = true
made_step answer = false

-- the services of this scenario, which serve all its players, and which nobody else uses
pub record IsAlone (s : Content) (alone : Bool) (m : Machines) (serves : Who → Type 0) : Type 0 where
  pub is_alone : alone ≡ true
  pub machines : m ≡ machines_of s
  pub serves_all : (who : Who) → serves who

-- what a turn leaves, and what is told of it
pub record Turned (m : Machines) (s : Content) (old new : World) (player : ℕ) (told : Turn)
    : Type 0 where
  pub next : new ≡ turn m s old player
  pub ready : IsReady s new
  pub spent : has_spent told ≡ is_spent s new
  pub moved : has_moved told ≡ true → all_left s new.players < all_left s old.players
  pub still : has_moved told ≡ false → new ≡ old

-- how the run goes on after a round
abbrev pub GoesOn : Content → World → World → RoundEnd → Type 0
GoesOn s old new Still = (is_spent s new ≡ false) × (new ≡ old)
GoesOn s old new Goes = (is_spent s new ≡ false) × (all_left s new.players < all_left s old.players)
GoesOn s old new Spent = is_spent s new ≡ true

-- what a round leaves, and what is told of it
pub record Rounded (m : Machines) (s : Content) (old new : World) (course : RoundEnd) : Type 0 where
  pub next : new ≡ round m s old
  pub ready : IsReady s new
  pub goes : GoesOn s old new course

-- a round that has come to the player of this number, with so many turns left
pub record WithinRound (m : Machines) (s : Content) (old now : World) (moved : Bool)
    (turns_left player : ℕ) : Type 0 where
  pub rest : turns m s now turns_left player ≡ round m s old
  pub ready : IsReady s now
  pub unspent : is_spent s now ≡ false
  pub less : moved ≡ true → all_left s now.players < all_left s old.players
  pub still : moved ≡ false → now ≡ old
