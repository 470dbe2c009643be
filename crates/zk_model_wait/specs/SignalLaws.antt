use Rattle.std.specs.Prelude.{◌≡◌, ℕ, ◌+◌, Some, List, length}
use Rattle.zk_base.specs.declared.ids.Who.{Who}
use Rattle.zk_base.specs.declared.ids.Entry.{Entry}
use Rattle.zk_base.specs.declared.seen.Seen.{Seen}
use Rattle.zk_base.specs.History.{IsEntry}
use Rattle.zk_base.specs.Legal.{state_after, IsLegal}
use Rattle.zk_model_wait.specs.declared.signal.SignalOp.{SignalOp}
use Rattle.zk_model_wait.specs.declared.signal.SignalOp.TheVariants as ops
use Rattle.zk_model_wait.specs.declared.signal.SignalReply.{SignalReply}
use Rattle.zk_model_wait.specs.declared.signal.SignalReply.TheVariants.{Stamp}
use Rattle.zk_model_wait.specs.Signal.{Signal, new_signal, raised_at, clear_at, value_at, signal_seen, signal_reply, signal_machine}

-- a history of a signal
abbrev pub SignalHistory : Type 0
SignalHistory = List (Entry SignalOp SignalReply)

-- the signal after a history, from the first state on
abbrev pub signal_after_all : SignalHistory → Signal
signal_after_all h = state_after signal_machine new_signal h

-- it holds of each legal history of a signal
abbrev pub OfEachSignal : (SignalHistory → Type 0) → Type 0
OfEachSignal P = (h : SignalHistory) → IsLegal signal_machine new_signal h → P h

-- what a look at this stamp finds: what its write left
pub record TellsWrite (op : SignalOp) (stamp : ℕ) (seen : Seen) : Type 0 where
  pub raised : (value : ℕ) → op ≡ ops.Raise value → seen ≡ raised_at stamp value
  pub clear : op ≡ ops.Clear → seen ≡ clear_at stamp

-- Each of what follows is said of one history, from the first state on.

-- each write is told its number, from 1
abbrev pub StampIsItsNumber : SignalHistory → Type 0
StampIsItsNumber h = (front : SignalHistory) (e : Entry SignalOp SignalReply) → IsEntry h front e →
    e.reply ≡ Stamp (length front + 1)

-- a look at the stamp of a write finds what that write left, whatever was written since
abbrev pub LookTellsItsWrite : SignalHistory → Type 0
LookTellsItsWrite h = (front : SignalHistory) (e : Entry SignalOp SignalReply) → IsEntry h front e →
    TellsWrite e.op (length front + 1) (value_at (signal_after_all h).writes (length front + 1))

-- a look before any write finds a signal that isn't raised
abbrev pub LookBeforeAnyWriteIsClear : SignalHistory → Type 0
LookBeforeAnyWriteIsClear h = value_at (signal_after_all h).writes 0 ≡ clear_at 0

-- a look now finds the value of the last stamp
abbrev pub LookTellsTheLastStamp : SignalHistory → Type 0
LookTellsTheLastStamp h = signal_seen (signal_after_all h) ≡ value_at (signal_after_all h).writes (length h)

-- both writes are possible at any time
abbrev pub MayAlways : SignalHistory → Type 0
MayAlways h = (who : Who) (op : SignalOp) → (reply : SignalReply) × (signal_reply (signal_after_all h) who op ≡ Some reply)

-- the laws of a signal
pub record KeepsSignalLaws (h : SignalHistory) : Type 0 where
  pub stamps : StampIsItsNumber h
  pub looks : LookTellsItsWrite h
  pub first : LookBeforeAnyWriteIsClear h
  pub last : LookTellsTheLastStamp h
  pub always : MayAlways h
