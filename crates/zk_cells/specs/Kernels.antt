-- Inner: no contract of a top call is made of this file.
-- A kernel: the services of a scenario, each in its cell, and the signals, which are shared without one.
use Rattle.std.specs.Prelude.{◌≡◌, ◌<◌, ℕ, length, Option, Some, None, All}
use Rattle.zk_scenario.specs.Content.{Content}
use Rattle.zk_scenario.specs.Players.{players}
use Rattle.zk_scenario.specs.Valid.{IsValid}
use Rattle.zk_turn.specs.declared.cell.Cell.{Cell}
use Rattle.zk_signal.specs.declared.signal.SharedSignal.{SharedSignal}
use Rattle.zk_signal.specs.Passes as shared
use Rattle.zk_turn.specs.Passes.{players_in}
use Rattle.zk_worker.specs.Machines.{machines_of}
use Rattle.zk_cells.specs.declared.cells.Cells.{Cells}
use Rattle.zk_cells.specs.Desks.{cells_machines}

-- what threads share: the cells, and the scenario whose services are in them
pub record Shared : Type 0 where
  pub cells : Cells
  pub scenario : Content

module _ {S O R T : Type 0} where
  -- where there is a cell, it was made for so many players
  abbrev pub HasWhole : ℕ → Option (Cell S O R T) → Type 0
  HasWhole many None = Unit {0}
  HasWhole many (Some c) = many ≡ length (players_in c)

-- where there is a signal, it was made for so many players
abbrev pub IsSharedBy : ℕ → Option SharedSignal → Type 0
IsSharedBy many None = Unit {0}
IsSharedBy many (Some s) = many ≡ length (shared.players_in s)

-- all services were made for so many players
pub record AreWhole (c : Cells) (many : ℕ) : Type 0 where
  pub work : many ≡ length (players_in c.work)
  pub clock : many ≡ length (players_in c.clock)
  pub table : many ≡ length (players_in c.table)
  pub sems : All (HasWhole many) c.sems.items
  pub msgqs : All (HasWhole many) c.msgqs.items
  pub signals : All (IsSharedBy many) c.signals.items
  pub chans : All (HasWhole many) c.chans.items
  pub observers : All (HasWhole many) c.observers.items

-- the cells have the services of this scenario, each for all its players, of which there are some
pub record IsMadeFor (c : Cells) (s : Content) : Type 0 where
  pub valid : IsValid s
  pub machines : cells_machines c ≡ machines_of s
  pub whole : AreWhole c (length (players s.decls))
  pub some : 0 < length (players s.decls)
