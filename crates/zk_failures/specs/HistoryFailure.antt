use Rattle.std.specs.Prelude.{◌≡◌, ℕ, Some, List, slice_get, take}
use Rattle.zk_base.specs.declared.ids.Entry.{Entry}
use Rattle.zk_base.specs.Legal.{Machine, state_after}
use Rattle.zk_scenario.specs.Content.{Content}
use Rattle.zk_worker.specs.declared.steps.Spot.{Spot}
use Rattle.zk_worker.specs.declared.steps.Spot.TheVariants as spots
use Rattle.zk_worker.specs.Families.{Family}
use Rattle.zk_worker.specs.Machines.{Machines, machines_of}
use Rattle.zk_trace.specs.declared.stood.Stood.{Stood}
use Rattle.zk_trace.specs.declared.trace.Trace.{Trace}
use Rattle.zk_trace.specs.Stood.{stood}
use Rattle.zk_failures.specs.declared.site.Site.{Site}
use Rattle.zk_failures.specs.declared.site.Site.TheVariants.{Ending, Row, Player, Answer}
use Rattle.zk_failures.specs.First.{IsFirst}

-- the entry at a place of a history isn't what the machine answers behind those before it
pub record IsUnlike {S O R : Type 0} (m : Machine S O R) (start : S) (h : List (Entry O R)) (place : ℕ) : Type 0 where
  pub e : Entry O R
  pub there : slice_get h place ≡ Some e
  pub unlike : m.reply_of (state_after m start (take place h)) e.who e.op ≡ Some e.reply → ⊥

-- nor is it at an object of a kind
pub record IsUnlikeAt {S O R : Type 0} (family : Family S O R) (histories : List (List (Entry O R))) (object place : ℕ) : Type 0 where
  pub start : S
  pub h : List (Entry O R)
  pub starts : slice_get family.starts object ≡ Some (Some start)
  pub stands : slice_get histories object ≡ Some h
  pub entry : IsUnlike family.machine start h place

-- the entry at a spot isn't what its service answers there; a look is no entry
abbrev pub IsUnlikeIn : Machines → Trace → Spot → Type 0
IsUnlikeIn m t (spots.Work place) = IsUnlike m.work m.work_start t.work place
IsUnlikeIn m t (spots.Clock place) = IsUnlike m.clock m.clock_start t.clock place
IsUnlikeIn m t (spots.Table place) = IsUnlike m.table m.table_start t.table place
IsUnlikeIn m t (spots.Sem object place) = IsUnlikeAt m.sems t.sems object place
IsUnlikeIn m t (spots.Msgq object place) = IsUnlikeAt m.msgqs t.msgqs object place
IsUnlikeIn m t (spots.Signal object place) = IsUnlikeAt m.signals t.signals object place
IsUnlikeIn m t (spots.Chan object place) = IsUnlikeAt m.chans t.chans object place
IsUnlikeIn m t (spots.Obs object place) = IsUnlikeAt m.observers t.observers object place
IsUnlikeIn m t (spots.LookItem item flags at) = ⊥
IsUnlikeIn m t (spots.LookSignal object seen) = ⊥

-- the line at a place is an entry that its service doesn't answer so
pub record IsUnanswered (s : Content) (t : Trace) (place : ℕ) : Type 0 where
  pub line : Stood
  pub there : slice_get (stood t) place ≡ Some line
  pub unlike : IsUnlikeIn (machines_of s) t line.spot

-- the first such line
abbrev pub IsHistoryFailure : Content → Trace → Site → Type 0
IsHistoryFailure s t (Row place) = IsFirst (IsUnanswered s t) place
IsHistoryFailure s t (Player player) = ⊥
IsHistoryFailure s t (Answer player place) = ⊥
IsHistoryFailure s t Ending = ⊥
