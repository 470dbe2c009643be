-- Inner: no contract of a top call is made of this file.
use Rattle.std.specs.Prelude.{◌≡◌, ◌<◌, Option, Some, None, List, [], length}
use Rattle.std.specs.List.{AllZip}
use Rattle.zk_base.specs.declared.ids.Entry.{Entry}
use Rattle.zk_base.specs.History.{Rises}
use Rattle.zk_base.specs.Legal.{Machine, AreInRange}
use Rattle.zk_base.specs.Limits.{most_entries}
use Rattle.zk_worker.specs.Families.{Family}
use Rattle.zk_worker.specs.Machines.{Machines}
use Rattle.zk_trace.specs.declared.trace.Trace.{Trace}
use Rattle.zk_trace.specs.Stood.{stood}

-- a service can be asked for these entries, one after another: their steps rise, what they name is there, and they aren't too many
pub record IsPlayable {S O R : Type 0} (m : Machine S O R) (start : S) (h : List (Entry O R)) : Type 0 where
  pub rises : Rises h
  pub range : AreInRange m start h
  pub short : length h < most_entries

-- so it is of an object's history; an object of another kind has none
abbrev pub IsPlayableAt : {S O R : Type 0} → Machine S O R → Option S → List (Entry O R) → Type 0
IsPlayableAt m (Some start) h = IsPlayable m start h
IsPlayableAt m None h = h ≡ []

-- of the histories of the objects of a kind, by object number
abbrev pub EachPlayable : {S O R : Type 0} → Family S O R → List (List (Entry O R)) → Type 0
EachPlayable family histories = AllZip (IsPlayableAt family.machine) family.starts histories

-- and of all histories of a trace
pub record ArePlayable (m : Machines) (t : Trace) : Type 0 where
  pub work : IsPlayable m.work m.work_start t.work
  pub clock : IsPlayable m.clock m.clock_start t.clock
  pub table : IsPlayable m.table m.table_start t.table
  pub sems : EachPlayable m.sems t.sems
  pub msgqs : EachPlayable m.msgqs t.msgqs
  pub signals : EachPlayable m.signals t.signals
  pub chans : EachPlayable m.chans t.chans
  pub observers : EachPlayable m.observers t.observers
  pub few : length (stood t) < most_entries
