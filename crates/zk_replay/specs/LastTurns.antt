-- Inner: no contract of a top call is made of this file.
use Rattle.std.specs.Prelude.{◌≡◌, ◌⊎◌, ℕ, true, Some, None, List, map, slice_get, All}
use Rattle.std.specs.List.{AllZip}
use Rattle.zk_base.specs.declared.ids.Who.{Who}
use Rattle.zk_scenario.specs.Content.{Content}
use Rattle.zk_services.specs.Counted.{service_of, entries_at}
use Rattle.zk_worker.specs.declared.steps.Step.{Step}
use Rattle.zk_worker.specs.Attempt.{reply_in}
use Rattle.zk_worker.specs.Choosing.{chosen}
use Rattle.zk_worker.specs.Looks.{Longer}
use Rattle.zk_worker.specs.Machines.{Machines}
use Rattle.zk_worker.specs.Places.{PlayerPlace}
use Rattle.zk_worker.specs.Protocol.{attempts}
use Rattle.zk_worker.specs.Shown.{Shown}
use Rattle.zk_world.specs.World.{World}
use Rattle.zk_replay.specs.declared.last_turn.Asked.{Asked}
use Rattle.zk_replay.specs.declared.last_turn.LastTurn.{LastTurn}

-- a step, with how many entries are shown of the service that it asks
abbrev pub asked_at : Shown → Step → Asked
asked_at shown step = record { step = step; entries = entries_at shown (service_of step) }

-- a step that was asked for in vain is in vain still: its service has as many entries as it had, or it isn't possible now
abbrev pub IsFutile : Machines → Shown → Who → Asked → Type 0
IsFutile m shown who a = (entries_at shown (service_of a.step) ≡ a.entries) ⊎ (reply_in m shown who a.step ≡ None)

-- all of these steps are in vain still
abbrev pub AreFutile : Machines → Shown → Who → List Asked → Type 0
AreFutile m shown who asked = All (IsFutile m shown who) asked

-- a step with how many entries are shown now of the service that it asks
abbrev pub counted_again : Shown → Asked → Asked
counted_again shown asked = record { step = asked.step; entries = entries_at shown (service_of asked.step) }

-- these are these attempts, with how many entries their services had at some moment
abbrev pub HaveAsked : List Asked → List Step → Type 0
HaveAsked asked ahead = (earlier : Shown) × (asked ≡ map (asked_at earlier) ahead)

-- what was shown earlier: each history has only grown since
pub record IsEarlier (old new : Shown) : Type 0 where
  pub work : Longer old.work new.work
  pub clock : Longer old.clock new.clock
  pub table : Longer old.table new.table
  pub sems : AllZip Longer old.sems new.sems
  pub msgqs : AllZip Longer old.msgqs new.msgqs
  pub signals : AllZip Longer old.signals new.signals
  pub chans : AllZip Longer old.chans new.chans
  pub observers : AllZip Longer old.observers new.observers
  pub looks : new.looks ≡ old.looks

-- a player asked for these steps when it had no possible attempt, and still stands there
pub record WaitsSince (m : Machines) (s : Content) (shown : Shown) (at : PlayerPlace) (asked : List Asked)
    : Type 0 where
  pub earlier : Shown
  pub since : IsEarlier earlier shown
  pub none : chosen m s earlier at ≡ None
  pub asks : asked ≡ map (asked_at earlier) (attempts s at)

-- what is kept of a player's last turn holds
abbrev pub IsKept : Machines → Content → Shown → PlayerPlace → LastTurn → Type 0
IsKept m s shown at kept = kept.waits ≡ true → WaitsSince m s shown at kept.asked.items

-- what is kept of each player's last turn holds
abbrev pub AreKept : Machines → Content → World → List LastTurn → Type 0
AreKept m s w waiting =
    (p : ℕ) (at : PlayerPlace) (kept : LastTurn) → slice_get w.players p ≡ Some at →
    slice_get waiting p ≡ Some kept → IsKept m s w.shown at kept
