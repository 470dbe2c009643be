use Rattle.std.specs.Prelude.{◌≡◌, Option, Some, None, List, []}
use Rattle.std.specs.List.{AllZip}
use Rattle.zk_base.specs.declared.ids.Entry.{Entry}
use Rattle.zk_base.specs.Legal.{Machine, Replays, AreInRange}
use Rattle.zk_scenario.specs.Content.{Content}
use Rattle.zk_model_bus.specs.Table.{new_table, table_machine}
use Rattle.zk_model_wait.specs.Clock.{new_clock, clock_machine}
use Rattle.zk_model_work.specs.Machine.{work_machine}
use Rattle.zk_worker.specs.Families.{Family}
use Rattle.zk_worker.specs.Machines.{work_start_of, machines_of}
use Rattle.zk_worker.specs.TableSetup.{setup_of}
use Rattle.zk_trace.specs.declared.trace.Trace.{Trace}

-- a machine lets a history stand entry for entry, and the ids in it are in range
abbrev pub IsAnswered : {S O R : Type 0} → Machine S O R → S → List (Entry O R) → Type 0
IsAnswered m start h = Replays m start h × AreInRange m start h

-- an object's history stands so from the state that it starts in; an object of another kind has none
abbrev pub IsAnsweredAt : {S O R : Type 0} → Machine S O R → Option S → List (Entry O R) → Type 0
IsAnsweredAt m (Some start) h = IsAnswered m start h
IsAnsweredAt m None h = h ≡ []

-- the histories of the objects of a kind, by object number: one for each object
abbrev pub EachAnswered : {S O R : Type 0} → Family S O R → List (List (Entry O R)) → Type 0
EachAnswered family histories = AllZip (IsAnsweredAt family.machine) family.starts histories

-- the machine of each service lets its history stand, entry for entry
pub record AreLegal (s : Content) (t : Trace) : Type 0 where
  pub work : IsAnswered work_machine (work_start_of s) t.work
  pub clock : IsAnswered clock_machine new_clock t.clock
  pub table : IsAnswered table_machine (new_table (setup_of s)) t.table
  pub sems : EachAnswered (machines_of s).sems t.sems
  pub msgqs : EachAnswered (machines_of s).msgqs t.msgqs
  pub signals : EachAnswered (machines_of s).signals t.signals
  pub chans : EachAnswered (machines_of s).chans t.chans
  pub observers : EachAnswered (machines_of s).observers t.observers
