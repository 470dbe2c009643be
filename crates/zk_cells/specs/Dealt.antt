-- Inner: no contract of a top call is made of this file.
-- New passes: those that no caller has yet, and those that a caller gets of them.
use Rattle.std.specs.Prelude.{◌≡◌, ℕ, ◌≤◌, Option, Some, None, List, [], ◌∷◌, ◌++◌, Vec, All, map, vec_capacity}
use Rattle.std.specs.declared.alloc.Global.{Global}
use Rattle.std.specs.List.{AllZip}
use Rattle.zk_base.specs.declared.ids.Who.{Who}
use Rattle.zk_base.specs.declared.ids.Entry.{Entry}
use Rattle.zk_base.specs.Legal.{IsLegal}
use Rattle.zk_model_wait.specs.Clock.{clock_machine}
use Rattle.zk_model_wait.specs.Sem.{sem_machine}
use Rattle.zk_model_wait.specs.Msgq.{msgq_machine}
use Rattle.zk_model_wait.specs.Signal.{Signal, new_signal}
use Rattle.zk_model_wait.specs.declared.signal.SignalOp.{SignalOp}
use Rattle.zk_model_wait.specs.declared.signal.SignalReply.{SignalReply}
use Rattle.zk_model_bus.specs.Channel.{chan_machine}
use Rattle.zk_model_bus.specs.Observer.{obs_machine}
use Rattle.zk_model_bus.specs.Table.{table_machine}
use Rattle.zk_model_work.specs.Machine.{work_machine}
use Rattle.zk_bus.specs.Seen.{chan_start, chan_history}
use Rattle.zk_msgq.specs.Seen.{msgq_start, msgq_history}
use Rattle.zk_objects.specs.Seen.{objects_start, objects_history}
use Rattle.zk_base.specs.RecordedView.{RecordedView}
use Rattle.zk_poll.specs.Seen.{signal_start}
use Rattle.zk_signal.specs.declared.pass.SigPass.{SigPass}
use Rattle.zk_signal.specs.declared.signal.SharedSignal.{SharedSignal}
use Rattle.zk_signal.specs.Passes as shared
use Rattle.zk_sem.specs.Seen.{sem_start, sem_history}
use Rattle.zk_subq.specs.Seen.{obs_start, obs_history}
use Rattle.zk_time.specs.ClockSeen.{clock_start, clock_history}
use Rattle.zk_work.specs.Seen.{work_start, work_history}
use Rattle.zk_turn.specs.declared.pass.Pass.{Pass}
use Rattle.zk_turn.specs.declared.cell.Cell.{Cell}
use Rattle.zk_turn.specs.Passes.{IsNewPass, AreNewPasses}
use Rattle.zk_services.specs.declared.plain.Plain.{Plain}
use Rattle.zk_cells.specs.declared.cells.Cells.{Cells}
use Rattle.zk_cells.specs.declared.dealing.Undealt.{Undealt}
use Rattle.zk_cells.specs.declared.passes.Passes.{Passes}

-- a signal starts before its first write, where there is one
abbrev pub IsBegun : Option (RecordedView Signal SignalOp SignalReply) → Type 0
IsBegun None = Unit {0}
IsBegun (Some signal) = signal_start signal ≡ new_signal

-- nothing was done at the service, where there is one
abbrev pub IsUnused : {S E : Type 0} → (S → List E) → Option S → Type 0
IsUnused history None = Unit {0}
IsUnused history (Some service) = history service ≡ []

module _ {S O R T : Type 0} where
  -- a list has a new pass of the cell for each of these players, in order; without a cell it has none
  abbrev pub AreLeft : (T → List (Entry O R) → Type 0) → (S → T) → List Who → Option (Cell S O R T) →
      List (Pass S O R T) → Type 0
  AreLeft legal start ws None passes = passes ≡ []
  AreLeft legal start ws (Some c) passes = AreNewPasses legal start c ws passes

  -- there is such a list for each cell of a kind
  abbrev pub AllLeft : (T → List (Entry O R) → Type 0) → (S → T) → List Who → List (Option (Cell S O R T)) →
      List (Vec (Pass S O R T) Global) → Type 0
  AllLeft legal start ws cells lists = AllZip (λ c passes. AreLeft legal start ws c passes.items) cells lists

  -- there is a new pass of this cell for this player
  abbrev pub IsNewAt : (T → List (Entry O R) → Type 0) → (S → T) → Who → Cell S O R T → Option (Pass S O R T) → Type 0
  IsNewAt legal start who c None = ⊥
  IsNewAt legal start who c (Some p) = IsNewPass legal start c who p

  -- where there is a cell
  abbrev pub IsNewIn : (T → List (Entry O R) → Type 0) → (S → T) → Who → Option (Cell S O R T) →
      Option (Pass S O R T) → Type 0
  IsNewIn legal start who None None = Unit {0}
  IsNewIn legal start who None (Some p) = ⊥
  IsNewIn legal start who (Some c) p = IsNewAt legal start who c p

  -- one for each cell of a kind
  abbrev pub AllNew : (T → List (Entry O R) → Type 0) → (S → T) → Who → List (Option (Cell S O R T)) →
      List (Option (Pass S O R T)) → Type 0
  AllNew legal start who cells passes = AllZip (IsNewIn legal start who) cells passes

module _ {P : Type 0} where
  -- the last was taken out of a list, where it had one
  abbrev pub IsTaken : Vec P Global → Option P → Vec P Global → Type 0
  IsTaken old None new = (old.items ≡ []) × (new.items ≡ [])
  IsTaken old (Some p) new = old.items ≡ new.items ++ p ∷ []

  -- out of each list
  abbrev pub AllTaken : List (Vec P Global) → List (Option P) → List (Vec P Global) → Type 0
  AllTaken [] [] [] = Unit {0}
  AllTaken (old ∷ olds) (p ∷ passes) (new ∷ news) = IsTaken old p new × AllTaken olds passes news
  AllTaken olds passes news = ⊥

-- a list has a new pass of the signal for each of these players, in order; without a signal it has none
abbrev pub AreSigLeft : List Who → Option SharedSignal → List SigPass → Type 0
AreSigLeft ws None passes = passes ≡ []
AreSigLeft ws (Some s) passes = shared.AreNewPasses s (map (λ w. w.number) ws) passes

-- there is such a list for each signal
abbrev pub AllSigLeft : List Who → List (Option SharedSignal) → List (Vec SigPass Global) → Type 0
AllSigLeft ws signals lists = AllZip (λ s passes. AreSigLeft ws s passes.items) signals lists

-- there is a new pass of the signal for this player, where there is a signal
abbrev pub IsNewSigIn : Who → Option SharedSignal → Option SigPass → Type 0
IsNewSigIn who None None = Unit {0}
IsNewSigIn who None (Some p) = ⊥
IsNewSigIn who (Some s) None = ⊥
IsNewSigIn who (Some s) (Some p) = shared.IsNewPass s who.number p

-- one for each
abbrev pub AllNewSigs : Who → List (Option SharedSignal) → List (Option SigPass) → Type 0
AllNewSigs who signals passes = AllZip (IsNewSigIn who) signals passes

-- nothing was done at any of these services; signals are made anew
pub record AreUnused (p : Plain) : Type 0 where
  pub work : work_history p.work ≡ []
  pub clock : clock_history p.clock ≡ []
  pub table : objects_history p.table ≡ []
  pub sems : All (IsUnused sem_history) p.sems.items
  pub msgqs : All (IsUnused msgq_history) p.msgqs.items
  pub signals : All IsBegun p.signals.items
  pub chans : All (IsUnused chan_history) p.chans.items
  pub observers : All (IsUnused obs_history) p.observers.items

-- these players have no pass yet, and there are new ones of each service for them, in order
pub record AreUndealt (c : Cells) (ws : List Who) (u : Undealt) : Type 0 where
  pub work : AreLeft (IsLegal work_machine) work_start ws (Some c.work) u.work.items
  pub clock : AreLeft (IsLegal clock_machine) clock_start ws (Some c.clock) u.clock.items
  pub table : AreLeft (IsLegal table_machine) objects_start ws (Some c.table) u.table.items
  pub sems : AllLeft (IsLegal sem_machine) sem_start ws c.sems.items u.sems.items
  pub msgqs : AllLeft (IsLegal msgq_machine) msgq_start ws c.msgqs.items u.msgqs.items
  pub signals : AllSigLeft ws c.signals.items u.signals.items
  pub chans : AllLeft (IsLegal chan_machine) chan_start ws c.chans.items u.chans.items
  pub observers : AllLeft (IsLegal obs_machine) obs_start ws c.observers.items u.observers.items

-- the last pass of each service was taken out, and no look and no write is noted, with room for so many
pub record IsDealt (most : ℕ) (old : Undealt) (p : Passes) (new : Undealt) : Type 0 where
  pub work : IsTaken old.work p.work new.work
  pub clock : IsTaken old.clock p.clock new.clock
  pub table : IsTaken old.table p.table new.table
  pub sems : AllTaken old.sems.items p.sems.items new.sems.items
  pub msgqs : AllTaken old.msgqs.items p.msgqs.items new.msgqs.items
  pub signals : AllTaken old.signals.items p.signals.items new.signals.items
  pub chans : AllTaken old.chans.items p.chans.items new.chans.items
  pub observers : AllTaken old.observers.items p.observers.items new.observers.items
  pub looked : p.looked ≡ 0
  pub notes : p.notes.items ≡ []
  pub capacity : most ≤ vec_capacity p.notes

-- the passes are new ones of this player, one of each service, with room for its writes at signals, of which there is none,
-- as there is no look at an item
pub record AreNew (c : Cells) (who : Who) (p : Passes) : Type 0 where
  pub work : IsNewAt (IsLegal work_machine) work_start who c.work p.work
  pub clock : IsNewAt (IsLegal clock_machine) clock_start who c.clock p.clock
  pub table : IsNewAt (IsLegal table_machine) objects_start who c.table p.table
  pub sems : AllNew (IsLegal sem_machine) sem_start who c.sems.items p.sems.items
  pub msgqs : AllNew (IsLegal msgq_machine) msgq_start who c.msgqs.items p.msgqs.items
  pub signals : AllNewSigs who c.signals.items p.signals.items
  pub chans : AllNew (IsLegal chan_machine) chan_start who c.chans.items p.chans.items
  pub observers : AllNew (IsLegal obs_machine) obs_start who c.observers.items p.observers.items
  pub looked : p.looked ≡ 0
  pub notes : p.notes.items ≡ []
  pub capacity : c.most ≤ vec_capacity p.notes

-- there are such passes
abbrev pub HasNew : Cells → Who → Option Passes → Type 0
HasNew c who None = ⊥
HasNew c who (Some p) = AreNew c who p
