-- Inner: no contract of a top call is made of this file.
use Rattle.std.specs.Prelude.{◌≡◌, ◌≢◌, ℕ, ◌+◌, ◌-◌, Bool, true, false, if◌then◌else◌, Option, Some, None, List, length, slice_get, option_and_then, All}
use Rattle.std.specs.Option.{option_map_or}
use Rattle.zk_player_set.specs.declared.player_set.PlayerSet.{PlayerSet}
use Rattle.zk_player_set.specs.Players.{has}
use Rattle.zk_scenario.specs.Content.{Content}
use Rattle.zk_services.specs.declared.counted.ServiceId.{ServiceId}
use Rattle.zk_services.specs.declared.counted.ServiceId.TheVariants as ids
use Rattle.zk_services.specs.Counted.{service_of, may_serve}
use Rattle.zk_worker.specs.declared.steps.Spot.{Spot}
use Rattle.zk_worker.specs.declared.steps.Spot.TheVariants as spots
use Rattle.zk_worker.specs.declared.steps.Step.{Step}
use Rattle.zk_worker.specs.Attempt.{reply_in}
use Rattle.zk_worker.specs.Machines.{Machines}
use Rattle.zk_worker.specs.Places.{PlayerPlace}
use Rattle.zk_worker.specs.Protocol.{attempts}
use Rattle.zk_worker.specs.Shown.{Shown}
use Rattle.zk_world.specs.World.{World}
use Rattle.zk_replay.specs.declared.last_turn.Asked.{Asked}
use Rattle.zk_replay.specs.declared.last_turn.LastTurn.{LastTurn}
use Rattle.zk_replay.specs.declared.sleepers.Sleepers.{Sleepers}

-- the number of the list of a service: an object's stands behind those of the services of which there is one
abbrev pub list_of : ServiceId → ℕ
list_of ids.Work = 0
list_of ids.Clock = 1
list_of ids.Table = 2
list_of (ids.Sem object) = object + 3
list_of (ids.Msgq object) = object + 3
list_of (ids.Signal object) = object + 3
list_of (ids.Chan object) = object + 3
list_of (ids.Obs object) = object + 3

-- the service that has the entry of this spot: a look has none
abbrev pub entered_at : Spot → Option ServiceId
entered_at (spots.Work place) = Some ids.Work
entered_at (spots.Clock place) = Some ids.Clock
entered_at (spots.Table place) = Some ids.Table
entered_at (spots.Sem object place) = Some (ids.Sem object)
entered_at (spots.Msgq object place) = Some (ids.Msgq object)
entered_at (spots.Signal object place) = Some (ids.Signal object)
entered_at (spots.Chan object place) = Some (ids.Chan object)
entered_at (spots.Obs object place) = Some (ids.Obs object)
entered_at (spots.LookItem object flags at) = None
entered_at (spots.LookSignal object seen) = None

-- the same of the last of these spots
abbrev pub last_entered : List Spot → Option ServiceId
last_entered log = option_and_then entered_at (slice_get log (length log - 1))

-- a service, where its last entry may have made a step of another player possible
abbrev pub if_serving : Shown → ServiceId → Option ServiceId
if_serving shown service = if may_serve shown service then Some service else None

-- the same of the service of the last of these spots
abbrev pub serving : Shown → List Spot → Option ServiceId
serving shown log = option_and_then (if_serving shown) (last_entered log)

-- a player is said to sleep: where nobody is, there is no set
abbrev pub is_asleep : Sleepers → ℕ → Bool
is_asleep sleepers player = option_map_or (λ players. has players player) sleepers.asleep false

-- a player stands in the list of this number
abbrev pub listed_at : List PlayerSet → ℕ → ℕ → Bool
listed_at lists list player = option_map_or (λ players. has players player) (slice_get lists list) false

-- a player stands in the list of the service that a step asks
abbrev pub asks_at : List PlayerSet → ℕ → Step → Bool
asks_at lists number step = listed_at lists (list_of (service_of step)) number

-- a player sleeps: none of the steps that it may make next is possible, and it stands in the lists of their services
pub record Sleeps (m : Machines) (s : Content) (shown : Shown) (at : PlayerPlace) (lists : List PlayerSet)
    (number : ℕ) : Type 0 where
  pub none : All (λ step. reply_in m shown at.who step ≡ None) (attempts s at)
  pub listed : All (λ step. asks_at lists number step ≡ true) (attempts s at)

-- each player that is said to sleep does
abbrev pub AreAsleep : Machines → Content → World → Sleepers → Type 0
AreAsleep m s w sleepers =
    (p : ℕ) (at : PlayerPlace) → slice_get w.players p ≡ Some at → is_asleep sleepers p ≡ true →
    Sleeps m s w.shown at sleepers.lists.items p

-- a player stands in the lists of the services that it asked
abbrev pub AreListed : List PlayerSet → List Asked → ℕ → Type 0
AreListed lists asked number = All (λ a. asks_at lists number a.step ≡ true) asked

-- whoever stood in a list stands there still
abbrev pub StandStill : List PlayerSet → List PlayerSet → Type 0
StandStill old new = (list p : ℕ) → listed_at old list p ≡ true → listed_at new list p ≡ true

-- a player whose last turn was in vain sleeps, if it stands in the lists of the services that it asked
pub record FellAsleep (kept : LastTurn) (number : ℕ) (old new : Sleepers) : Type 0 where
  pub waits : is_asleep new number ≡ true → kept.waits ≡ true
  pub listed : is_asleep new number ≡ true → AreListed new.lists.items kept.asked.items number
  pub others : (p : ℕ) → p ≢ number → is_asleep new p ≡ true → is_asleep old p ≡ true
  pub stand : StandStill old.lists.items new.lists.items

-- a player that sleeps slept before, and stands in each list still: not in that of a service that may serve it
pub record SleepsOn (entered : Option ServiceId) (old new : Sleepers) (p : ℕ) : Type 0 where
  pub slept : is_asleep old p ≡ true
  pub stands : (list : ℕ) → listed_at old.lists.items list p ≡ true → listed_at new.lists.items list p ≡ true
  pub apart : (service : ServiceId) → entered ≡ Some service → listed_at old.lists.items (list_of service) p ≡ false

-- the same of all who sleep
abbrev pub SleepOn : Option ServiceId → Sleepers → Sleepers → Type 0
SleepOn entered old new = (p : ℕ) → is_asleep new p ≡ true → SleepsOn entered old new p
