-- Inner: no contract of a top call is made of this file.
-- A caller's writes at signals, and what is shown of a signal at which others write too.
use Rattle.std.specs.Prelude.{◌==◌, ℕ, zero, suc, ◌^◌, if◌then◌else◌, List, [], ◌∷◌, ◌++◌, map, pos}
use Rattle.std.specs.List.{filter}
use Rattle.zk_base.specs.declared.ids.Who.{Who}
use Rattle.zk_base.specs.declared.ids.Entry.{Entry}
use Rattle.zk_base.specs.History.{entry}
use Rattle.zk_model_wait.specs.declared.signal.SignalOp.{SignalOp}
use Rattle.zk_model_wait.specs.declared.signal.SignalOp.TheVariants.{Clear}
use Rattle.zk_model_wait.specs.declared.signal.SignalReply.{SignalReply}
use Rattle.zk_model_wait.specs.declared.signal.SignalReply.TheVariants.{Stamp}
use Rattle.zk_cells.specs.declared.notes.Note.{Note}

-- an entry of a signal: a write
abbrev pub Write : Type 0
Write = Entry SignalOp SignalReply

-- nobody: no player has this number
abbrev pub nobody : Who
nobody = record { number = 2 ^ 32; prio = pos 0 }

-- what stands for a write of somebody else: an entry of nobody at its stamp
abbrev pub unseen : ℕ → Write
unseen stamp = entry nobody 0 Clear (Stamp stamp)

-- the stamp that was answered
abbrev pub stamp_told : SignalReply → ℕ
stamp_told (Stamp stamp) = stamp

-- the stamp of a write, and of a note
abbrev pub stamp_of : Write → ℕ
stamp_of e = stamp_told e.reply

abbrev pub stamp_noted : Note → ℕ
stamp_noted n = stamp_of n.entry

-- the step of a note
abbrev pub step_noted : Note → ℕ
step_noted n = n.entry.step

-- the notes of one signal
abbrev pub notes_at : List Note → ℕ → List Note
notes_at notes object = filter (λ n. n.signal == object) notes

-- the writes that are noted, and those of one signal
abbrev pub entries_of : List Note → List Write
entries_of notes = map (λ n. n.entry) notes

abbrev pub writes_at : List Note → ℕ → List Write
writes_at notes object = entries_of (notes_at notes object)

-- the own write of a stamp, or what stands for somebody else's
abbrev pub write_at : List Write → ℕ → Write
write_at [] stamp = unseen stamp
write_at (e ∷ es) stamp = if stamp_of e == stamp then e else write_at es stamp

-- the writes up to a stamp
abbrev pub writes_to : List Write → ℕ → List Write
writes_to own zero = []
writes_to own (suc n) = writes_to own n ++ write_at own (suc n) ∷ []
