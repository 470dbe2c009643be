-- Inner: no contract of a top call is made of this file.
use Rattle.std.specs.Prelude.{◌^◌, ◌<◌, ◌≤◌, List, length, All}
use Rattle.std.specs.List.{AllByRecursion}
use Rattle.zk_base.specs.declared.ids.Entry.{Entry}
use Rattle.zk_base.specs.Limits.{most_few}
use Rattle.zk_model_wait.specs.declared.signal.SignalOp.{SignalOp}
use Rattle.zk_model_wait.specs.declared.signal.SignalOp.TheVariants as writes
use Rattle.zk_model_work.specs.declared.ops.Expiry.{Expiry}
use Rattle.zk_model_work.specs.declared.ops.WorkReply.{WorkReply}
use Rattle.zk_worker.specs.declared.answers.Answered.{Answered}
use Rattle.zk_worker.specs.declared.log.Log.{Log}
use Rattle.zk_trace.specs.declared.looks.ItemLook.{ItemLook}
use Rattle.zk_trace.specs.declared.looks.SignalLook.{SignalLook}
use Rattle.zk_trace.specs.declared.parts.Part.{Part}
use Rattle.zk_trace.specs.declared.parts.Part.TheVariants as parts
use Rattle.zk_trace.specs.declared.trace.Trace.{Trace}
use Rattle.zk_trace.specs.Parts.{answer_part}
use Rattle.zk_trace.specs.Work as work
use Rattle.zk_trace.specs.Clock as clock
use Rattle.zk_trace.specs.Table as table
use Rattle.zk_trace.specs.Sem as sem
use Rattle.zk_trace.specs.Msgq as msgq
use Rattle.zk_trace.specs.Signal as signal
use Rattle.zk_trace.specs.Chan as chan
use Rattle.zk_trace.specs.Obs as obs

-- each number of a part is within its type, and its list is no longer than it may be
abbrev pub IsSizedPart : Part → Type 0
IsSizedPart (parts.Narrow number) = number < 2 ^ 32
IsSizedPart (parts.Wide number) = number < 2 ^ 64
IsSizedPart (parts.Place place) = place < 2 ^ 64
IsSizedPart (parts.Admission number) = number < 2 ^ 64
IsSizedPart (parts.Bytes message) = AllByRecursion (λ b. b < 2 ^ 8) message
IsSizedPart (parts.Objects objects) = length objects ≤ most_few
IsSizedPart (parts.Seen raised value) = value < 2 ^ 16
IsSizedPart (parts.Ready positions) = AllByRecursion (λ p. p < 2 ^ 32) positions
IsSizedPart part = Unit {0}

-- so it is of all of some parts
abbrev pub AreSized : List Part → Type 0
AreSized parts = AllByRecursion IsSizedPart parts

-- of what became of the submission of an item whose delay ended
abbrev pub IsSizedExpiry : Expiry → Type 0
IsSizedExpiry e = AreSized (work.submitted_parts e.submitted)

-- of a reply of the work service, with the delays that ended
pub record IsSizedWork (reply : WorkReply) : Type 0 where
  pub parts : AreSized (work.reply_parts reply)
  pub expiries : AllByRecursion IsSizedExpiry (work.expiries_of reply)

-- of a write to a signal
abbrev pub IsSizedWrite : SignalOp → Type 0
IsSizedWrite (writes.Raise value) = value < 2 ^ 16
IsSizedWrite writes.Clear = Unit {0}

-- of an entry, where it is so of its operation and of its reply
pub record IsSizedEntry {O R : Type 0} (Op : O → Type 0) (Reply : R → Type 0) (e : Entry O R) : Type 0 where
  pub step : e.step < 2 ^ 32
  pub op : Op e.op
  pub reply : Reply e.reply

-- of a look at an item
pub record IsSizedItemLook (look : ItemLook) : Type 0 where
  pub step : look.step < 2 ^ 32
  pub at : look.at < 2 ^ 64

-- of a look at a signal
pub record IsSizedSignalLook (look : SignalLook) : Type 0 where
  pub step : look.step < 2 ^ 32
  pub result : look.seen.result < 2 ^ 16
  pub stamp : look.seen.stamp < 2 ^ 32

-- of an answered call
pub record IsSizedAnswer (a : Answered) : Type 0 where
  pub step : a.step < 2 ^ 32
  pub answer : IsSizedPart (answer_part a.answer)

-- of what a player did
abbrev pub IsSizedLog : Log → Type 0
IsSizedLog log = All IsSizedAnswer log.answers

-- each number of a trace is within its type
pub record IsSized (t : Trace) : Type 0 where
  pub work : All (IsSizedEntry (λ op. AreSized (work.said_of op).1) IsSizedWork) t.work
  pub clock : All (IsSizedEntry (λ op. AreSized (clock.said_of op).1) (λ r. AreSized (clock.reply_parts r))) t.clock
  pub table : All (IsSizedEntry (λ op. AreSized (table.said_of op).1) (λ r. AreSized (table.reply_parts r))) t.table
  pub sems : All (All (IsSizedEntry (λ op. AreSized (sem.said_of op).1) (λ r. AreSized (sem.reply_parts r)))) t.sems
  pub msgqs : All (All (IsSizedEntry (λ op. AreSized (msgq.said_of op).1) (λ r. AreSized (msgq.reply_parts r)))) t.msgqs
  pub signals : All (All (IsSizedEntry IsSizedWrite (λ r. AreSized (signal.reply_parts r)))) t.signals
  pub chans : All (All (IsSizedEntry (λ op. AreSized (chan.said_of op).1) (λ r. AreSized (chan.reply_parts r)))) t.chans
  pub observers : All (All (IsSizedEntry (λ op. AreSized (obs.said_of op).1) (λ r. AreSized (obs.reply_parts r)))) t.observers
  pub item_looks : All IsSizedItemLook t.looks.items
  pub signal_looks : All (All IsSizedSignalLook) t.looks.signals
  pub logs : All IsSizedLog t.logs
