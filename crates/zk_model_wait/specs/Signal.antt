use Rattle.std.specs.Prelude.{ℕ, zero, suc, ◌+◌, Bool, true, false, if◌then◌else◌, Option, Some, None, is_some, List, [], ◌∷◌, ◌++◌, length, slice_get}
use Rattle.zk_base.specs.declared.ids.Who.{Who}
use Rattle.zk_base.specs.declared.seen.Seen.{Seen}
use Rattle.zk_base.specs.Legal.{Machine}
use Rattle.zk_model_wait.specs.declared.signal.SignalOp.{SignalOp}
use Rattle.zk_model_wait.specs.declared.signal.SignalOp.TheVariants as ops
use Rattle.zk_model_wait.specs.declared.signal.SignalReply.{SignalReply}
use Rattle.zk_model_wait.specs.declared.signal.SignalReply.TheVariants.{Stamp}

-- the state of a signal: its writes, the oldest first
pub record Signal : Type 0 where
  pub writes : List SignalOp

-- what a contract sees of the signal that is kept: its state, and how many writes it takes without memory
pub record SignalView : Type 0 where
  pub signal : Signal
  pub room : ℕ

-- the state before the first write
abbrev pub new_signal : Signal
new_signal = record { writes = [] }

-- a signal that isn't raised, at a stamp
abbrev pub clear_at : ℕ → Seen
clear_at stamp = record { raised = false; result = 0; stamp = stamp }

-- a signal that is raised with a result, at a stamp
abbrev pub raised_at : ℕ → ℕ → Seen
raised_at stamp value = record { raised = true; result = value; stamp = stamp }

-- what the write of a stamp leaves
abbrev pub written : ℕ → SignalOp → Seen
written stamp (ops.Raise value) = raised_at stamp value
written stamp ops.Clear = clear_at stamp

-- and where there is no such write
abbrev pub written_by : ℕ → Option SignalOp → Seen
written_by stamp (Some write) = written stamp write
written_by stamp None = clear_at stamp

-- the write of a stamp: the first has stamp 1, and none has stamp 0
abbrev pub write_of : List SignalOp → ℕ → Option SignalOp
write_of writes zero = None
write_of writes (suc before) = slice_get writes before

-- the value of a stamp: what its write leaves. Before any write it is clear
abbrev pub value_at : List SignalOp → ℕ → Seen
value_at writes stamp = written_by stamp (write_of writes stamp)

-- what a look finds now: the value of the last stamp
abbrev pub signal_seen : Signal → Seen
signal_seen s = value_at s.writes (length s.writes)

-- the reply to each write: its number, from 1
abbrev pub signal_reply : Signal → Who → SignalOp → Option SignalReply
signal_reply s who op = Some (Stamp (length s.writes + 1))

-- the state after a write
abbrev pub signal_next : Signal → Who → SignalOp → Signal
signal_next s who op = record { writes = s.writes ++ op ∷ [] }

-- the state after an operation with this reply: nothing changes where there is none
abbrev pub signal_after : Signal → Who → SignalOp → Option SignalReply → Signal
signal_after s who op reply = if is_some reply then signal_next s who op else s

-- an operation names nothing that could be missing
abbrev pub signal_in_range : Signal → SignalOp → Bool
signal_in_range s op = true

-- the machine of a signal
abbrev pub signal_machine : Machine Signal SignalOp SignalReply
signal_machine = record { reply_of = signal_reply; next = signal_next; in_range = signal_in_range }
