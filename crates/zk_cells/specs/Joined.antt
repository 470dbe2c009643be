-- Inner: no contract of a top call is made of this file.
-- Passes that are put together.
use Rattle.std.specs.Prelude.{◌≡◌, ℕ, suc, Option, Some, None, List, [], ◌∷◌, map}
use Rattle.std.specs.List.{AllZip}
use Rattle.zk_base.specs.declared.ids.Who.{Who}
use Rattle.zk_base.specs.declared.ids.Entry.{Entry}
use Rattle.zk_base.specs.declared.seen.Seen.{Seen}
use Rattle.zk_base.specs.Legal.{IsLegal}
use Rattle.zk_model_wait.specs.Clock.{clock_machine}
use Rattle.zk_model_wait.specs.Sem.{sem_machine}
use Rattle.zk_model_wait.specs.Msgq.{msgq_machine}
use Rattle.zk_model_bus.specs.Channel.{chan_machine}
use Rattle.zk_model_bus.specs.Observer.{obs_machine}
use Rattle.zk_model_bus.specs.Table.{table_machine}
use Rattle.zk_model_work.specs.Machine.{work_machine}
use Rattle.zk_bus.specs.Seen.{chan_start}
use Rattle.zk_msgq.specs.Seen.{msgq_start}
use Rattle.zk_objects.specs.Seen.{objects_start}
use Rattle.zk_poll.specs.Seen.{left_by}
use Rattle.zk_sem.specs.Seen.{sem_start}
use Rattle.zk_subq.specs.Seen.{obs_start}
use Rattle.zk_time.specs.ClockSeen.{clock_start}
use Rattle.zk_work.specs.Seen.{work_start}
use Rattle.zk_turn.specs.declared.pass.Pass.{Pass}
use Rattle.zk_turn.specs.declared.cell.Cell.{Cell}
use Rattle.zk_turn.specs.Players.{GoesOn}
use Rattle.zk_turn.specs.Passes.{IsPassOf, pass_players}
use Rattle.zk_signal.specs.declared.pass.SigPass.{SigPass}
use Rattle.zk_signal.specs.declared.signal.SharedSignal.{SharedSignal}
use Rattle.zk_signal.specs.Passes as shared
use Rattle.zk_worker.specs.Places.{PlayerPlace}
use Rattle.zk_worker.specs.Shown.{Shown}
use Rattle.zk_cells.specs.declared.notes.Note.{Note}
use Rattle.zk_cells.specs.declared.cells.Cells.{Cells}
use Rattle.zk_cells.specs.declared.passes.Passes.{Passes}
use Rattle.zk_cells.specs.Notes.{writes_at}

module _ {S O R T : Type 0} where
  -- it is a pass of this cell for these players
  pub record IsFor (legal : T → List (Entry O R) → Type 0) (start : S → T) (c : Cell S O R T) (ws : List Who)
      (p : Pass S O R T) : Type 0 where
    pub of_cell : IsPassOf legal start c p
    pub players : pass_players p ≡ ws

  abbrev pub StandsFor : (T → List (Entry O R) → Type 0) → (S → T) → List Who → Cell S O R T → Option (Pass S O R T) → Type 0
  StandsFor legal start ws c None = ⊥
  StandsFor legal start ws c (Some p) = IsFor legal start c ws p

  -- where there is a cell
  abbrev pub StandsIn : (T → List (Entry O R) → Type 0) → (S → T) → List Who → Option (Cell S O R T) →
      Option (Pass S O R T) → Type 0
  StandsIn legal start ws None None = Unit {0}
  StandsIn legal start ws None (Some p) = ⊥
  StandsIn legal start ws (Some c) p = StandsFor legal start ws c p

  -- one for each cell of a kind
  abbrev pub AllStand : (T → List (Entry O R) → Type 0) → (S → T) → List Who → List (Option (Cell S O R T)) →
      List (Option (Pass S O R T)) → Type 0
  AllStand legal start ws cells passes = AllZip (StandsIn legal start ws) cells passes

module _ {O R : Type 0} where
  -- each history goes on by entries of others than these players
  abbrev pub EachGoesOn : List Who → List (List (Entry O R)) → List (List (Entry O R)) → Type 0
  EachGoesOn ws old new = AllZip (GoesOn ws) old new

-- the passes of cells are of this kernel, for these players
pub record AreFor (k : Cells) (ws : List Who) (p : Passes) : Type 0 where
  pub work : StandsFor (IsLegal work_machine) work_start ws k.work p.work
  pub clock : StandsFor (IsLegal clock_machine) clock_start ws k.clock p.clock
  pub table : StandsFor (IsLegal table_machine) objects_start ws k.table p.table
  pub sems : AllStand (IsLegal sem_machine) sem_start ws k.sems.items p.sems.items
  pub msgqs : AllStand (IsLegal msgq_machine) msgq_start ws k.msgqs.items p.msgqs.items
  pub chans : AllStand (IsLegal chan_machine) chan_start ws k.chans.items p.chans.items
  pub observers : AllStand (IsLegal obs_machine) obs_start ws k.observers.items p.observers.items

-- what is shown of cells goes on by entries of others than these players
pub record AllGoOn (ws : List Who) (old new : Shown) : Type 0 where
  pub work : GoesOn ws old.work new.work
  pub clock : GoesOn ws old.clock new.clock
  pub table : GoesOn ws old.table new.table
  pub sems : EachGoesOn ws old.sems new.sems
  pub msgqs : EachGoesOn ws old.msgqs new.msgqs
  pub chans : EachGoesOn ws old.chans new.chans
  pub observers : EachGoesOn ws old.observers new.observers

-- who these players are
abbrev pub whos : List PlayerPlace → List Who
whos players = map (λ at. at.who) players

-- what the noted writes at the signal of a number left
abbrev pub left_at : List Note → ℕ → List Seen
left_at notes object = map left_by (writes_at notes object)

-- it is a pass of this signal for the players of these numbers, which have written and found this
pub record IsSharedFor (numbers : List ℕ) (left found : List Seen) (s : SharedSignal) (p : SigPass) : Type 0 where
  pub of_signal : shared.IsPassOf s p
  pub players : shared.pass_players p ≡ numbers
  pub writes : shared.pass_writes p ≡ left
  pub looks : shared.pass_looks p ≡ found

-- there is one
abbrev pub HasSharedAt : List ℕ → List Seen → List Seen → SharedSignal → Option SigPass → Type 0
HasSharedAt numbers left found s None = ⊥
HasSharedAt numbers left found s (Some p) = IsSharedFor numbers left found s p

-- where there is a signal
abbrev pub HasSharedIn : List ℕ → List Seen → List Seen → Option SharedSignal → Option SigPass → Type 0
HasSharedIn numbers left found None None = Unit {0}
HasSharedIn numbers left found None (Some p) = ⊥
HasSharedIn numbers left found (Some s) p = HasSharedAt numbers left found s p

-- one for each object number, with what was written and found there
abbrev pub HaveShared : List ℕ → (ℕ → List Seen) → (ℕ → List Seen) → List (Option SharedSignal) → List (Option SigPass) → Type 0
HaveShared numbers left found [] [] = Unit {0}
HaveShared numbers left found (s ∷ signals) (p ∷ passes) =
    HasSharedIn numbers (left 0) (found 0) s p
    × HaveShared numbers (λ object. left (suc object)) (λ object. found (suc object)) signals passes
HaveShared numbers left found signals passes = ⊥

-- the numbers of these players
abbrev pub numbers_of : List Who → List ℕ
numbers_of ws = map (λ w. w.number) ws
