-- Inner: no contract of a top call is made of this file.
use Rattle.std.specs.Prelude.{◌≡◌, ◌⊎◌, ℕ, ◌+◌, Option, Some, None, List, [], ◌∷◌, ◌++◌, length, map}
use Rattle.std.specs.List.{AllByRecursion, AllZip}
use Rattle.zk_base.specs.declared.ids.Entry.{Entry}
use Rattle.zk_base.specs.Legal.{Machine, Replays}
use Rattle.zk_worker.specs.declared.steps.Spot.{Spot}
use Rattle.zk_worker.specs.Families.{Family}
use Rattle.zk_worker.specs.Machines.{Machines}
use Rattle.zk_trace.specs.declared.looks.SignalLook.{SignalLook}
use Rattle.zk_trace.specs.declared.stood.Family.TheVariants as families
use Rattle.zk_trace.specs.declared.stood.Home.TheVariants as homes
use Rattle.zk_trace.specs.declared.stood.Stood.{Stood}
use Rattle.zk_trace.specs.declared.trace.Trace.{Trace}
use Rattle.zk_trace.specs.Stood.{entries_stood, histories_stood, signals_stood, item_look_stood}
use Rattle.zk_trace.specs.Text.{looks_at}
use Rattle.zk_failures.specs.First.{IsFirst}
use Rattle.zk_failures.specs.HistoryFailure.{IsUnlike}

-- the first entry of a history that its machine doesn't answer so, if there is one
abbrev pub FirstUnlike : {S O R : Type 0} → Machine S O R → S → List (Entry O R) → Option ℕ → Type 0
FirstUnlike m start h None = Replays m start h
FirstUnlike m start h (Some place) = IsFirst (IsUnlike m start h) place

-- the same of an object; one of another kind has no entries
abbrev pub FirstUnlikeAt : {S O R : Type 0} → Machine S O R → Option S → List (Entry O R) → Option ℕ → Type 0
FirstUnlikeAt m (Some start) h place = FirstUnlike m start h place
FirstUnlikeAt m None h None = h ≡ []
FirstUnlikeAt m None h (Some place) = ⊥

-- its history stands whole
abbrev pub StandsAt : {S O R : Type 0} → Machine S O R → Option S → List (Entry O R) → Type 0
StandsAt m start h = FirstUnlikeAt m start h None

-- how many lines the objects of a kind have, from the one of a number on: of each the entries, and the looks at it
abbrev pub line_count : {O R : Type 0} → List (List SignalLook) → ℕ → List (List (Entry O R)) → ℕ
line_count looks object [] = 0
line_count looks object (h ∷ hs) = length h + length (looks_at looks object) + line_count looks (object + 1) hs

-- the first of these lines that isn't answered so, if there is one
abbrev pub FirstAmong : {S O R : Type 0} → Machine S O R → List (List SignalLook) → ℕ → List (Option S) →
    List (List (Entry O R)) → Option ℕ → Type 0
FirstAmong m looks object starts hs None = AllZip (StandsAt m) starts hs
FirstAmong m looks object [] hs (Some row) = ⊥
FirstAmong m looks object (start ∷ starts) [] (Some row) = ⊥
FirstAmong m looks object (start ∷ starts) (h ∷ hs) (Some row) =
    FirstUnlikeAt m start h (Some row)
    ⊎ (StandsAt m start h × (more : ℕ) × (row ≡ length h + length (looks_at looks object) + more)
    × FirstAmong m looks (object + 1) starts hs (Some more))

-- the first of some lines whose spot is so
pub record IsFoundAt (Unlike : Spot → Type 0) (lines : List Stood) (place : ℕ) : Type 0 where
  pub front : List Stood
  pub line : Stood
  pub rest : List Stood
  pub whole : lines ≡ front ++ line ∷ rest
  pub there : length front ≡ place
  pub none_before : AllByRecursion (λ line. Unlike line.spot → ⊥) front
  pub unlike : Unlike line.spot

-- some lines stand all, or this is the first that doesn't
abbrev pub Sought : Type 0 → (Spot → Type 0) → List Stood → Option ℕ → Type 0
Sought Stands Unlike lines None = Stands
Sought Stands Unlike lines (Some place) = IsFoundAt Unlike lines place

-- The lines of a trace in three parts, in their order.

-- those of the services of which there is one
abbrev pub single_lines : Trace → List Stood
single_lines t =
    entries_stood homes.Work 0 t.work ++ (map item_look_stood t.looks.items
    ++ (entries_stood homes.Clock 0 t.clock ++ entries_stood homes.Table 0 t.table))

-- those of what players wait for
abbrev pub waited_lines : Trace → List Stood
waited_lines t =
    histories_stood families.Sem 0 t.sems ++ (histories_stood families.Msgq 0 t.msgqs
    ++ signals_stood t.looks.signals 0 t.signals)

-- those of the bus
abbrev pub bus_lines : Trace → List Stood
bus_lines t = histories_stood families.Chan 0 t.chans ++ histories_stood families.Obs 0 t.observers

-- the histories of the objects of a kind stand
abbrev pub EachStands : {S O R : Type 0} → Family S O R → List (List (Entry O R)) → Type 0
EachStands family histories = AllZip (StandsAt family.machine) family.starts histories

-- all histories of each part stand
abbrev pub SinglesStand : Machines → Trace → Type 0
SinglesStand m t =
    Replays m.work m.work_start t.work × Replays m.clock m.clock_start t.clock × Replays m.table m.table_start t.table

abbrev pub WaitedStand : Machines → Trace → Type 0
WaitedStand m t = EachStands m.sems t.sems × EachStands m.msgqs t.msgqs × EachStands m.signals t.signals

abbrev pub BusStands : Machines → Trace → Type 0
BusStands m t = EachStands m.chans t.chans × EachStands m.observers t.observers
