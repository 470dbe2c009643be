-- Inner: no contract of a top call is made of this file.
use Rattle.std.specs.Prelude.{◌≡◌, Option, Some, None, List, []}
use Rattle.std.specs.List.{AllZip}
use Rattle.zk_base.specs.declared.ids.Entry.{Entry}
use Rattle.zk_base.specs.Legal.{Machine, IsLegal}
use Rattle.zk_worker.specs.Families.{Family}
use Rattle.zk_worker.specs.Machines.{Machines}
use Rattle.zk_worker.specs.Shown.{Shown}

-- an object's history is legal from the state that it starts in; an object of another kind has none
abbrev pub IsLegalAt : {S O R : Type 0} → Machine S O R → Option S → List (Entry O R) → Type 0
IsLegalAt m (Some start) h = IsLegal m start h
IsLegalAt m None h = h ≡ []

-- the histories of the objects of a kind, by object number, are legal: one for each object
abbrev pub EachLegal : {S O R : Type 0} → Family S O R → List (List (Entry O R)) → Type 0
EachLegal family histories = AllZip (IsLegalAt family.machine) family.starts histories

-- what is shown is legal, for the machines that the services have
pub record IsLegalShown (m : Machines) (shown : Shown) : Type 0 where
  pub work : IsLegal m.work m.work_start shown.work
  pub clock : IsLegal m.clock m.clock_start shown.clock
  pub table : IsLegal m.table m.table_start shown.table
  pub sems : EachLegal m.sems shown.sems
  pub msgqs : EachLegal m.msgqs shown.msgqs
  pub signals : EachLegal m.signals shown.signals
  pub chans : EachLegal m.chans shown.chans
  pub observers : EachLegal m.observers shown.observers
