-- Inner: no contract of a top call is made of this file.
-- The passes of callers that are put together.
use Rattle.std.specs.Prelude.{◌≡◌, ℕ, true, false, Option, Some, None, List, [], ◌∷◌, ◌++◌, length, map, slice_get, All}
use Rattle.zk_base.specs.declared.ids.Who.{Who}
use Rattle.zk_base.specs.declared.seen.Seen.{Seen}
use Rattle.zk_scenario.specs.Players.{players}
use Rattle.zk_turn.specs.Players.{has}
use Rattle.zk_worker.specs.Shown.{OnlyOthersCame}
use Rattle.zk_cells.specs.declared.cells.Cells.{Cells}
use Rattle.zk_cells.specs.declared.notes.Note.{Note}
use Rattle.zk_cells.specs.declared.passes.Passes.{Passes}
use Rattle.zk_cells.specs.Desks.{desk_shown}
use Rattle.zk_cells.specs.Joined.{AreFor, whos, left_at, HaveShared, numbers_of}
use Rattle.zk_cells.specs.Lasting.{late}
use Rattle.zk_cells.specs.Signals.{looks_at_number}
use Rattle.zk_kernel.specs.declared.caller.Caller.{Caller}
use Rattle.zk_cells.specs.Kernels.{Shared}
use Rattle.zk_kernel.specs.Callers.{IsCaller, number_of, place_of, shown_to}

-- who the players of these callers are
abbrev pub players_of : List Caller → List Who
players_of callers = whos (map place_of callers)

-- what these passes have noted, where there are some, and what they found at the signal of a number
abbrev pub noted_by : Option Passes → List Note
noted_by None = []
noted_by (Some p) = p.notes.items

abbrev pub found_at : Option Passes → ℕ → List Seen
found_at None object = []
found_at (Some p) object = looks_at_number p.signals.items object

-- what callers have noted, one after the other, and what they found
abbrev pub all_noted : List Caller → List Note
all_noted [] = []
all_noted (c ∷ callers) = noted_by c.passes ++ all_noted callers

abbrev pub all_found : List Caller → ℕ → List Seen
all_found [] object = []
all_found (c ∷ callers) object = found_at c.passes object ++ all_found callers object

-- a caller's passes of cells were put to these: its player is one of those, and they have seen all that it had. Of the signals
-- what it had seen stays as it was, since what stands there for others' writes can't be told before they all are together
pub record IsAmong (ws : List Who) (all : Passes) (c : Caller) : Type 0 where
  pub among : has ws (place_of c).who.number ≡ true
  pub seen : OnlyOthersCame false (place_of c).who.number (shown_to c) (late (shown_to c) (desk_shown all))

-- these passes stand for these callers' players, in their order: they have seen all that these had of cells, and have noted,
-- written and found all that these had at signals
pub record AreGathered (c : Cells) (callers : List Caller) (all : Passes) : Type 0 where
  pub stand : AreFor c (players_of callers) all
  pub notes : all.notes.items ≡ all_noted callers
  pub signals : HaveShared (numbers_of (players_of callers)) (left_at (all_noted callers)) (all_found callers)
      c.signals.items all.signals.items
  pub kept : All (IsAmong (players_of callers) all) callers

-- the passes of these callers were put together: as long as there are none there is no pass
abbrev pub AreTogether : Cells → List Caller → Option Passes → Type 0
AreTogether c callers None = callers ≡ []
AreTogether c callers (Some all) = AreGathered c callers all

-- these are all the callers of a kernel, in the order of their numbers
pub record AreInOrder (k : Shared) (callers : List Caller) : Type 0 where
  pub own : All (IsCaller k) callers
  pub all : length callers ≡ length (players k.scenario.decls)
  pub numbers : (p : ℕ) (c : Caller) → slice_get callers p ≡ Some c → number_of c ≡ p
