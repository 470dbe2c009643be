-- Inner: no contract of a top call is made of this file.
-- Services that were taken out of their cells.
use Rattle.std.specs.Prelude.{◌≡◌, ◌≤◌, ◌<◌, ◌*◌, ℕ, suc, true, map, length, Option, Some, None, List, [], ◌∷◌, All}
use Rattle.zk_base.specs.declared.ids.Who.{Who}
use Rattle.zk_base.specs.declared.ids.Entry.{Entry}
use Rattle.std.specs.List.{Contains}
use Rattle.std.specs.List.Sorted.{IsPermutation}
use Rattle.zk_base.specs.Legal.{IsLegal}
use Rattle.zk_base.specs.RecordedView.{RecordedView}
use Rattle.zk_base.specs.declared.seen.Seen.{Seen}
use Rattle.zk_model_wait.specs.Signal.{Signal, new_signal, signal_machine}
use Rattle.zk_model_wait.specs.declared.signal.SignalOp.{SignalOp}
use Rattle.zk_model_wait.specs.declared.signal.SignalReply.{SignalReply}
use Rattle.zk_poll.specs.Seen.{signal_start, signal_history}
use Rattle.zk_signal.specs.declared.signal.SharedSignal.{SharedSignal}
use Rattle.zk_signal.specs.Counts.{CountsFrom}
use Rattle.zk_turn.specs.declared.pass.Pass.{Pass}
use Rattle.zk_turn.specs.declared.cell.Cell.{Cell}
use Rattle.zk_turn.specs.Passes.{given_to, players_in, pass_players}
use Rattle.zk_turn.specs.Players.{is_by, room_of_a_pass}
use Rattle.zk_worker.specs.Shown.{Shown}
use Rattle.zk_cells.specs.declared.notes.Note.{Note}
use Rattle.zk_cells.specs.Lasting.{IsLookAt}
use Rattle.zk_cells.specs.Notes.{Write, stamp_of, stamp_noted, step_noted}
use Rattle.zk_visit.specs.Seats.{seen_at}

module _ {S O R T : Type 0} where
  -- the players for which a pass stands
  abbrev pub players_at : Option (Pass S O R T) → List Who
  players_at None = []
  players_at (Some p) = pass_players p

  -- the service of a cell came out with the history that its pass has seen, all of which was made by the pass's players
  pub record CameOut (legal : T → List (Entry O R) → Type 0) (start : S → T) (history : S → List (Entry O R))
      (c : Cell S O R T) (p : Option (Pass S O R T)) (service : S) : Type 0 where
    pub whole : history service ≡ seen_at p
    pub same : start service ≡ start (given_to c)
    pub lawful : legal (start service) (history service)
    pub short : length (history service) ≤ room_of_a_pass * length (players_in c)
    pub mine : All (λ e. is_by (players_at p) e ≡ true) (history service)

  -- where there is a cell
  abbrev pub IsClosed : (T → List (Entry O R) → Type 0) → (S → T) → (S → List (Entry O R)) →
      Option (Cell S O R T) → Option (Pass S O R T) → Option S → Type 0
  IsClosed legal start history None p None = seen_at p ≡ []
  IsClosed legal start history None p (Some service) = ⊥
  IsClosed legal start history (Some c) p None = ⊥
  IsClosed legal start history (Some c) p (Some service) = CameOut legal start history c p service

  -- each did
  abbrev pub AreClosed : (T → List (Entry O R) → Type 0) → (S → T) → (S → List (Entry O R)) →
      List (Option (Cell S O R T)) → List (Option (Pass S O R T)) → List (Option S) → Type 0
  AreClosed legal start history [] [] [] = Unit {0}
  AreClosed legal start history (c ∷ cs) (p ∷ ps) (x ∷ xs) =
      IsClosed legal start history c p x × AreClosed legal start history cs ps xs
  AreClosed legal start history cs ps xs = ⊥

-- what is shown in the end: of the cells what all have seen, and these histories of the signals
abbrev pub ended : Shown → List (List Write) → Shown
ended seen histories = record seen { signals = histories; looks = None; looked = None }

-- all entries of a history are of these players
abbrev pub AreBy : {O R : Type 0} → List Who → List (Entry O R) → Type 0
AreBy ws h = All (λ e. is_by ws e ≡ true) h

-- all entries that are shown are of these players
pub record AllBy (ws : List Who) (shown : Shown) : Type 0 where
  pub work : AreBy ws shown.work
  pub clock : AreBy ws shown.clock
  pub table : AreBy ws shown.table
  pub sems : All (AreBy ws) shown.sems
  pub msgqs : All (AreBy ws) shown.msgqs
  pub signals : All (AreBy ws) shown.signals
  pub chans : All (AreBy ws) shown.chans
  pub observers : All (AreBy ws) shown.observers

-- of two notes of one player at one signal, the one of the lower stamp was made first
abbrev pub IsInStep : Note → Note → Type 0
IsInStep n m = n.signal ≡ m.signal → n.entry.who.number ≡ m.entry.who.number → stamp_noted n < stamp_noted m →
    step_noted n < step_noted m

-- each two of them
abbrev pub AreInStep : List Note → Type 0
AreInStep notes = (n m : Note) → Contains notes n → Contains notes m → IsInStep n m

-- a signal's writes were played in the order of their stamps, which are 1, 2 and so on; and each look found the value of its
-- stamp
pub record IsPlayed (own : List Write) (found : List Seen) (signal : RecordedView Signal SignalOp SignalReply) : Type 0 where
  pub whole : IsPermutation own (signal_history signal)
  pub order : CountsFrom 0 (map stamp_of (signal_history signal))
  pub start : signal_start signal ≡ new_signal
  pub legal : IsLegal signal_machine new_signal (signal_history signal)
  pub looks : All (IsLookAt (signal_history signal)) found

-- where there is a signal
abbrev pub IsPlayedIn : List Write → List Seen → Option SharedSignal → Option (RecordedView Signal SignalOp SignalReply) → Type 0
IsPlayedIn own found None None = Unit {0}
IsPlayedIn own found None (Some signal) = ⊥
IsPlayedIn own found (Some s) None = ⊥
IsPlayedIn own found (Some s) (Some signal) = IsPlayed own found signal

-- those of each object number
abbrev pub ArePlayed : (ℕ → List Write) → (ℕ → List Seen) → List (Option SharedSignal) →
    List (Option (RecordedView Signal SignalOp SignalReply)) → Type 0
ArePlayed own found [] [] = Unit {0}
ArePlayed own found (s ∷ signals) (x ∷ played) =
    IsPlayedIn (own 0) (found 0) s x × ArePlayed (λ object. own (suc object)) (λ object. found (suc object)) signals played
ArePlayed own found signals played = ⊥
