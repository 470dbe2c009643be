use Rattle.std.specs.Prelude.{ℕ, Option, List}
use Rattle.zk_base.specs.declared.ids.Entry.{Entry}
use Rattle.zk_line.specs.declared.types.Decl.{Decl}
use Rattle.zk_model_bus.specs.declared.channel.ChanOp.{ChanOp}
use Rattle.zk_model_bus.specs.declared.channel.ChanReply.{ChanReply}
use Rattle.zk_model_bus.specs.declared.observer.ObsOp.{ObsOp}
use Rattle.zk_model_bus.specs.declared.observer.ObsReply.{ObsReply}
use Rattle.zk_model_bus.specs.declared.table.TableOp.{TableOp}
use Rattle.zk_model_bus.specs.declared.table.TableReply.{TableReply}
use Rattle.zk_model_wait.specs.declared.clock.ClockOp.{ClockOp}
use Rattle.zk_model_wait.specs.declared.clock.ClockReply.{ClockReply}
use Rattle.zk_model_wait.specs.declared.msgq.MsgqOp.{MsgqOp}
use Rattle.zk_model_wait.specs.declared.msgq.MsgqReply.{MsgqReply}
use Rattle.zk_model_wait.specs.declared.sem.SemOp.{SemOp}
use Rattle.zk_model_wait.specs.declared.sem.SemReply.{SemReply}
use Rattle.zk_model_wait.specs.declared.signal.SignalOp.{SignalOp}
use Rattle.zk_model_wait.specs.declared.signal.SignalReply.{SignalReply}
use Rattle.zk_model_work.specs.declared.ops.WorkOp.{WorkOp}
use Rattle.zk_model_work.specs.declared.ops.WorkReply.{WorkReply}
use Rattle.zk_trace.specs.EntryRead.{entry_row, entry_of, FitsEntry}
use Rattle.zk_trace.specs.Work as work
use Rattle.zk_trace.specs.Clock as clock
use Rattle.zk_trace.specs.Table as table
use Rattle.zk_trace.specs.Sem as sem
use Rattle.zk_trace.specs.Msgq as msgq
use Rattle.zk_trace.specs.Signal as signal
use Rattle.zk_trace.specs.Chan as chan
use Rattle.zk_trace.specs.Obs as obs
use Rattle.zk_trace.specs.WorkRead as work_read
use Rattle.zk_trace.specs.ClockRead as clock_read
use Rattle.zk_trace.specs.TableRead as table_read
use Rattle.zk_trace.specs.SemRead as sem_read
use Rattle.zk_trace.specs.MsgqRead as msgq_read
use Rattle.zk_trace.specs.SignalRead as signal_read
use Rattle.zk_trace.specs.ChanRead as chan_read
use Rattle.zk_trace.specs.ObsRead as obs_read

-- Of each service an entry as its line without the feed, what a line says, and which entries are in form.

-- the work service
abbrev pub work_row : List Decl → Entry WorkOp WorkReply → List ℕ
work_row decls e = entry_row decls (work.op_words decls) (work.reply_words decls) e

abbrev pub work_of : List Decl → List ℕ → Option (Entry WorkOp WorkReply)
work_of decls row = entry_of decls (work_read.op_of decls) (λ op. work_read.reply_of decls (work.said_of op).0) row

abbrev pub IsWork : List Decl → Entry WorkOp WorkReply → Type 0
IsWork decls e = FitsEntry decls (work_read.FitsOp decls) (λ op reply. work_read.AnswersTo decls (work.said_of op).0 reply) e

-- the clock
abbrev pub clock_row : List Decl → Entry ClockOp ClockReply → List ℕ
clock_row decls e = entry_row decls (clock.op_words decls) (clock.reply_words decls) e

abbrev pub clock_of : List Decl → List ℕ → Option (Entry ClockOp ClockReply)
clock_of decls row = entry_of decls (clock_read.op_of decls) (λ op. clock_read.reply_of decls (clock.said_of op).0) row

abbrev pub IsClock : List Decl → Entry ClockOp ClockReply → Type 0
IsClock decls e = FitsEntry decls (clock_read.FitsOp decls) (λ op reply. clock_read.AnswersTo decls (clock.said_of op).0 reply) e

-- the object table
abbrev pub table_row : List Decl → Entry TableOp TableReply → List ℕ
table_row decls e = entry_row decls (table.op_words decls) (table.reply_words decls) e

abbrev pub table_of : List Decl → List ℕ → Option (Entry TableOp TableReply)
table_of decls row = entry_of decls (table_read.op_of decls) (λ op. table_read.reply_of decls (table.said_of op).0) row

abbrev pub IsTable : List Decl → Entry TableOp TableReply → Type 0
IsTable decls e = FitsEntry decls (table_read.FitsOp decls) (λ op reply. table_read.AnswersTo decls (table.said_of op).0 reply) e

-- a semaphore
abbrev pub sem_row : List Decl → Entry SemOp SemReply → List ℕ
sem_row decls e = entry_row decls (sem.op_words decls) (sem.reply_words decls) e

abbrev pub sem_of : List Decl → List ℕ → Option (Entry SemOp SemReply)
sem_of decls row = entry_of decls (sem_read.op_of decls) (λ op. sem_read.reply_of decls (sem.said_of op).0) row

abbrev pub IsSem : List Decl → Entry SemOp SemReply → Type 0
IsSem decls e = FitsEntry decls (sem_read.FitsOp decls) (λ op reply. sem_read.AnswersTo decls (sem.said_of op).0 reply) e

-- a message queue
abbrev pub msgq_row : List Decl → Entry MsgqOp MsgqReply → List ℕ
msgq_row decls e = entry_row decls (msgq.op_words decls) (msgq.reply_words decls) e

abbrev pub msgq_of : List Decl → List ℕ → Option (Entry MsgqOp MsgqReply)
msgq_of decls row = entry_of decls (msgq_read.op_of decls) (λ op. msgq_read.reply_of decls (msgq.said_of op).0) row

abbrev pub IsMsgq : List Decl → Entry MsgqOp MsgqReply → Type 0
IsMsgq decls e = FitsEntry decls (msgq_read.FitsOp decls) (λ op reply. msgq_read.AnswersTo decls (msgq.said_of op).0 reply) e

-- a signal
abbrev pub signal_row : List Decl → Entry SignalOp SignalReply → List ℕ
signal_row decls e = entry_row decls (signal.op_words decls) (signal.reply_words decls) e

abbrev pub signal_of : List Decl → List ℕ → Option (Entry SignalOp SignalReply)
signal_of decls row = entry_of decls (signal_read.op_of decls) (λ op. signal_read.reply_of decls (signal.said_of op).0) row

abbrev pub IsSignal : List Decl → Entry SignalOp SignalReply → Type 0
IsSignal decls e = FitsEntry decls (signal_read.FitsOp decls) (λ op reply. signal_read.AnswersTo decls (signal.said_of op).0 reply) e

-- a channel
abbrev pub chan_row : List Decl → Entry ChanOp ChanReply → List ℕ
chan_row decls e = entry_row decls (chan.op_words decls) (chan.reply_words decls) e

abbrev pub chan_of : List Decl → List ℕ → Option (Entry ChanOp ChanReply)
chan_of decls row = entry_of decls (chan_read.op_of decls) (λ op. chan_read.reply_of decls (chan.said_of op).0) row

abbrev pub IsChan : List Decl → Entry ChanOp ChanReply → Type 0
IsChan decls e = FitsEntry decls (chan_read.FitsOp decls) (λ op reply. chan_read.AnswersTo decls (chan.said_of op).0 reply) e

-- an observer
abbrev pub obs_row : List Decl → Entry ObsOp ObsReply → List ℕ
obs_row decls e = entry_row decls (obs.op_words decls) (obs.reply_words decls) e

abbrev pub obs_of : List Decl → List ℕ → Option (Entry ObsOp ObsReply)
obs_of decls row = entry_of decls (obs_read.op_of decls) (λ op. obs_read.reply_of decls (obs.said_of op).0) row

abbrev pub IsObs : List Decl → Entry ObsOp ObsReply → Type 0
IsObs decls e = FitsEntry decls (obs_read.FitsOp decls) (λ op reply. obs_read.AnswersTo decls (obs.said_of op).0 reply) e
