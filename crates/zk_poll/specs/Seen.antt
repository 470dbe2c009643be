-- Inner: no contract of a top call is made of this file.
use Rattle.std.specs.Prelude.{List}
use Rattle.zk_base.specs.declared.ids.Entry.{Entry}
use Rattle.zk_base.specs.declared.seen.Seen.{Seen}
use Rattle.zk_base.specs.RecordedView.{RecordedView}
use Rattle.zk_model_wait.specs.declared.signal.SignalOp.{SignalOp}
use Rattle.zk_model_wait.specs.declared.signal.SignalReply.{SignalReply}
use Rattle.zk_model_wait.specs.declared.signal.SignalReply.TheVariants.{Stamp}
use Rattle.zk_model_wait.specs.Signal as model

-- the state that the service began in
abbrev pub signal_start : RecordedView model.Signal SignalOp SignalReply → model.Signal
signal_start s = s.start

-- all that was done at it, oldest first
abbrev pub signal_history : RecordedView model.Signal SignalOp SignalReply → List (Entry SignalOp SignalReply)
signal_history s = s.history

-- what a write leaves that was answered so
abbrev pub left_as : SignalOp → SignalReply → Seen
left_as op (Stamp stamp) = model.written stamp op

-- what the write of an entry leaves
abbrev pub left_by : Entry SignalOp SignalReply → Seen
left_by e = left_as e.op e.reply
