-- Inner: no contract of a top call is made of this file.
use Rattle.std.specs.Prelude.{◌≡◌, true, Option, Some, None, List, slice_get, option_map, All}
use Rattle.zk_base.specs.declared.ids.Who.{Who}
use Rattle.zk_line.specs.declared.types.Decl.{Decl}
use Rattle.zk_line.specs.Objects.{is_at, is_item}
use Rattle.zk_scenario.specs.Content.{Content}
use Rattle.zk_scenario.specs.Players.{who_of}
use Rattle.zk_worker.specs.declared.steps.Step.{Step}
use Rattle.zk_worker.specs.declared.steps.Step.TheVariants as steps
use Rattle.zk_worker.specs.declared.steps.Spot.{Spot}
use Rattle.zk_worker.specs.declared.steps.Spot.TheVariants as spots
use Rattle.zk_worker.specs.Families.{entry_at, is_declared}
use Rattle.zk_worker.specs.Machines.{signal_start}
use Rattle.zk_worker.specs.Ranges.{step_fits}
use Rattle.zk_worker.specs.Shown.{Shown}
use Rattle.zk_world.specs.Says.{SaysFit}
use Rattle.zk_world.specs.World.{World}

-- an entry, as what a player asks of a service at a step
pub record Request : Type 0 where
  pub who : Who
  pub step : Step

-- this player asks this
abbrev pub request : Who → Step → Request
request who step = record { who = who; step = step }

-- what is asked by the entry at a spot; a look has none
abbrev pub request_at : Shown → Spot → Option Request
request_at shown (spots.Work place) =
    option_map (λ e. request e.who (steps.Work e.op)) (slice_get shown.work place)
request_at shown (spots.Clock place) =
    option_map (λ e. request e.who (steps.Clock e.op)) (slice_get shown.clock place)
request_at shown (spots.Table place) =
    option_map (λ e. request e.who (steps.Table e.op)) (slice_get shown.table place)
request_at shown (spots.Sem object place) =
    option_map (λ e. request e.who (steps.Sem object e.op)) (entry_at shown.sems object place)
request_at shown (spots.Msgq object place) =
    option_map (λ e. request e.who (steps.Msgq object e.op)) (entry_at shown.msgqs object place)
request_at shown (spots.Signal object place) =
    option_map (λ e. request e.who (steps.Signal object e.op)) (entry_at shown.signals object place)
request_at shown (spots.Chan object place) =
    option_map (λ e. request e.who (steps.Chan object e.op)) (entry_at shown.chans object place)
request_at shown (spots.Obs object place) =
    option_map (λ e. request e.who (steps.Obs object e.op)) (entry_at shown.observers object place)
request_at shown (spots.LookItem object flags at) = None
request_at shown (spots.LookSignal object seen) = None

-- a player is the scenario's, with its priority
abbrev pub IsKnownWho : Content → Who → Type 0
IsKnownWho s who = who_of s.decls who.number ≡ Some who

-- what was asked names what is declared, and was asked by a player of the scenario
pub record RequestFits (s : Content) (x : Request) : Type 0 where
  pub known : IsKnownWho s x.who
  pub fits : step_fits s.decls x.step ≡ true
  pub says : SaysFit s.decls x.step

-- a look is at an item, or at a signal
abbrev pub LookFits : List Decl → Spot → Type 0
LookFits decls (spots.LookItem object flags at) = is_at is_item decls object ≡ true
LookFits decls (spots.LookSignal object seen) = is_declared signal_start decls object ≡ true
LookFits decls spot = Unit {0}

-- all entries of a world, and the looks of its players, name what is declared, and are of players of the scenario
pub record AreFitting (s : Content) (w : World) : Type 0 where
  pub requests : (spot : Spot) (x : Request) → request_at w.shown spot ≡ Some x → RequestFits s x
  pub players : All (λ at. IsKnownWho s at.who) w.players
  pub looks : All (λ at. All (LookFits s.decls) at.spots) w.players
