-- Inner: no contract of a top call is made of this file.
-- A caller's passes of the signals, by object number, and what they show.
use Rattle.std.specs.Prelude.{◌≡◌, ℕ, suc, ◌+◌, ◌-◌, ◌<◌, ◌≤◌, Option, Some, None, List, [], ◌∷◌, ◌++◌, length, map, set, slice_get, option_map, All}
use Rattle.std.specs.Option.{option_map_or}
use Rattle.zk_base.specs.declared.ids.Who.{Who}
use Rattle.zk_base.specs.declared.seen.Seen.{Seen}
use Rattle.zk_base.specs.History.{entry}
use Rattle.zk_model_wait.specs.Signal.{Signal, new_signal, signal_machine, written}
use Rattle.zk_model_wait.specs.declared.signal.SignalOp.{SignalOp}
use Rattle.zk_model_wait.specs.declared.signal.SignalReply.{SignalReply}
use Rattle.zk_model_wait.specs.declared.signal.SignalReply.TheVariants.{Stamp}
use Rattle.zk_poll.specs.Seen.{left_by}
use Rattle.zk_signal.specs.declared.pass.SigPass.{SigPass}
use Rattle.zk_signal.specs.declared.signal.SharedSignal.{SharedSignal}
use Rattle.zk_signal.specs.Counts.{Rises}
use Rattle.zk_signal.specs.Limits.{most_writes}
use Rattle.zk_signal.specs.Passes.{IsPassOf, Wrote, Looked, pass_players, pass_writes, pass_looks, pass_top, pass_room}
use Rattle.zk_worker.specs.Families.{Family, entry_at}
use Rattle.zk_cells.specs.declared.notes.Note.{Note}
use Rattle.zk_cells.specs.Notes.{Write, stamp_of, step_noted, writes_to}

-- the machine of the signals; each starts before its first write
abbrev pub signal_family : List (Option SharedSignal) → Family Signal SignalOp SignalReply
signal_family signals = record { machine = signal_machine; starts = map (option_map (λ s. new_signal)) signals }

-- the greatest stamp that a pass has written or found
abbrev pub top_by : Option SigPass → ℕ
top_by None = 0
top_by (Some p) = pass_top p

-- what the passes show: of each signal the own writes, by these of each object number, and others' as writes of nobody, up to
-- the greatest stamp that was written or found

abbrev pub signals_by : (ℕ → List Write) → List (Option SigPass) → List (List Write)
signals_by own [] = []
signals_by own (p ∷ passes) = writes_to (own 0) (top_by p) ∷ signals_by (λ object. own (suc object)) passes

-- the looks of a pass, and those of each
abbrev pub looks_by : Option SigPass → List Seen
looks_by None = []
looks_by (Some p) = pass_looks p

abbrev pub all_looks : List (Option SigPass) → List (List Seen)
all_looks passes = map looks_by passes

-- the looks at the signal of this number, and how many they are
abbrev pub looks_at_number : List (Option SigPass) → ℕ → List Seen
looks_at_number passes object = option_map_or looks_by (slice_get passes object) []

abbrev pub looks_in : List (Option SigPass) → ℕ → ℕ
looks_in passes object = length (looks_at_number passes object)

-- a pass of a signal, which stands for this player alone: its writes are just the noted ones, and it has room for all that
-- its player hasn't made
pub record IsOwnAt (signal : SharedSignal) (who : Who) (own : List Write) (p : SigPass) : Type 0 where
  pub of_signal : IsPassOf signal p
  pub player : pass_players p ≡ who.number ∷ []
  pub room : most_writes ≤ pass_room p + length own
  pub writes : pass_writes p ≡ map left_by own
  pub rise : Rises (map stamp_of own)
  pub below : All (λ e. stamp_of e ≤ pass_top p) own

-- there is one
abbrev pub HasOwnAt : SharedSignal → Who → List Write → Option SigPass → Type 0
HasOwnAt signal who own None = ⊥
HasOwnAt signal who own (Some p) = IsOwnAt signal who own p

-- where there is a signal
abbrev pub HasOwnIn : Who → List Write → Option SharedSignal → Option SigPass → Type 0
HasOwnIn who own None None = Unit {0}
HasOwnIn who own None (Some p) = ⊥
HasOwnIn who own (Some signal) p = HasOwnAt signal who own p

-- one for each object number
abbrev pub HaveOwn : Who → (ℕ → List Write) → List (Option SharedSignal) → List (Option SigPass) → Type 0
HaveOwn who own [] [] = Unit {0}
HaveOwn who own (s ∷ signals) (p ∷ passes) = HasOwnIn who (own 0) s p × HaveOwn who (λ object. own (suc object)) signals passes
HaveOwn who own signals passes = ⊥

-- a note is shown at its stamp
abbrev pub IsShownIn : List (List Write) → Note → Type 0
IsShownIn shown n = entry_at shown n.signal (stamp_of n.entry - 1) ≡ Some n.entry

-- the notes are this player's, in the order of its steps, and all of them are shown
pub record AreNoted (who : Who) (notes : List Note) (histories : List (List Write)) : Type 0 where
  pub own : All (λ n. n.entry.who ≡ who) notes
  pub rise : Rises (map step_noted notes)
  pub shown : All (IsShownIn histories) notes

-- a pass of a signal has written this at this stamp, which is above all that it had written or found
pub record HasWritten (signal : SharedSignal) (old : SigPass) (op : SignalOp) (stamp : ℕ) (new : SigPass) : Type 0 where
  pub of_signal : IsPassOf signal new
  pub above : pass_top old < stamp
  pub wrote : Wrote old new (written stamp op)

-- a pass of a signal has found this, which isn't older than what it had written or found
pub record HasFound (signal : SharedSignal) (old : SigPass) (seen : Seen) (new : SigPass) : Type 0 where
  pub of_signal : IsPassOf signal new
  pub not_older : pass_top old ≤ seen.stamp
  pub looked : Looked old new seen

-- what became of a pass
abbrev pub NowIs : (SigPass → Type 0) → Option SigPass → Type 0
NowIs P None = ⊥
NowIs P (Some p) = P p

-- the signal of an object number, its pass, and what it became
pub record IsUsedAt (signals : List (Option SharedSignal)) (object : ℕ) (old new : List (Option SigPass)) : Type 0 where
  pub signal : SharedSignal
  pub before : SigPass
  pub after : SigPass
  pub there : slice_get signals object ≡ Some (Some signal)
  pub was : slice_get old object ≡ Some (Some before)
  pub is : new ≡ set old object (Some after)

-- the pass of the signal of this number has written, and it is noted
pub record WroteAmong (signals : List (Option SharedSignal)) (object : ℕ) (who : Who) (step : ℕ) (op : SignalOp) (stamp : ℕ)
    (old new : List (Option SigPass)) (before after : List Note) : Type 0 where
  pub used : IsUsedAt signals object old new
  pub made : HasWritten used.signal used.before op stamp used.after
  pub noted : after ≡ before ++ record { signal = object; entry = entry who step op (Stamp stamp) } ∷ []

-- the pass of the signal of this number has looked
pub record FoundAmong (signals : List (Option SharedSignal)) (object : ℕ) (seen : Seen) (old new : List (Option SigPass)) :
    Type 0 where
  pub used : IsUsedAt signals object old new
  pub made : HasFound used.signal used.before seen used.after
