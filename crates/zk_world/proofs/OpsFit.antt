-- An operation that names what is declared, and whose numbers are within their types, is in form.
use Rattle.std.proofs.Common.{◌≡◌, ℕ, zero, suc, Bool, true, nat_lt, ◌&&◌, Option, Some, None, List, [], ◌∷◌, length, arith}
use Rattle.std.specs.Option.{option_map_or}
use Rattle.std.proofs.lemmas.Bool.{and_parts, ltb-true}
use Rattle.zk_base.specs.declared.kinds.Need.TheVariants as needs
use Rattle.zk_line.specs.declared.types.Decl.{Decl}
use Rattle.zk_line.specs.Objects.{places, is_at, is_met, is_item, is_queue}
use Rattle.zk_model_bus.specs.declared.channel.ChanOp.{ChanOp}
use Rattle.zk_model_bus.specs.declared.channel.ChanOp.TheVariants as chan_ops
use Rattle.zk_model_bus.specs.declared.observer.ObsOp.{ObsOp}
use Rattle.zk_model_bus.specs.declared.observer.ObsOp.TheVariants as obs_ops
use Rattle.zk_model_bus.specs.declared.table.TableOp.{TableOp}
use Rattle.zk_model_bus.specs.declared.table.TableOp.TheVariants as table_ops
use Rattle.zk_model_wait.specs.declared.clock.ClockOp.{ClockOp}
use Rattle.zk_model_wait.specs.declared.clock.ClockOp.TheVariants as clock_ops
use Rattle.zk_model_wait.specs.declared.msgq.MsgqOp.{MsgqOp}
use Rattle.zk_model_wait.specs.declared.msgq.MsgqOp.TheVariants as msgq_ops
use Rattle.zk_model_wait.specs.declared.sem.SemOp.{SemOp}
use Rattle.zk_model_wait.specs.declared.sem.SemOp.TheVariants as sem_ops
use Rattle.zk_model_wait.specs.declared.signal.SignalOp.{SignalOp}
use Rattle.zk_model_wait.specs.declared.signal.SignalOp.TheVariants as signal_ops
use Rattle.zk_model_work.specs.declared.ops.WorkOp.{WorkOp}
use Rattle.zk_model_work.specs.declared.ops.WorkOp.TheVariants as ops
use Rattle.zk_worker.specs.declared.steps.Step.TheVariants as steps
use Rattle.zk_worker.specs.Ranges.{step_fits}
use Rattle.zk_worker.specs.TableSetup.{is_object}
use Rattle.zk_trace.specs.Fields.{IsItem, IsQueue, IsTarget, IsObject}
use Rattle.zk_trace.specs.Sized.{AreSized, IsSizedWrite}
use Rattle.zk_trace.specs.Work as work
use Rattle.zk_trace.specs.WorkRead as work_read
use Rattle.zk_trace.specs.Clock as clock
use Rattle.zk_trace.specs.ClockRead as clock_read
use Rattle.zk_trace.specs.TableRead as table_read
use Rattle.zk_trace.specs.Sem as sem
use Rattle.zk_trace.specs.SemRead as sem_read
use Rattle.zk_trace.specs.Msgq as msgq
use Rattle.zk_trace.specs.MsgqRead as msgq_read
use Rattle.zk_trace.specs.SignalRead as signal_read
use Rattle.zk_trace.specs.Chan as chan
use Rattle.zk_trace.specs.ChanRead as chan_read
use Rattle.zk_trace.specs.Obs as obs
use Rattle.zk_trace.specs.ObsRead as obs_read
use Rattle.zk_world.specs.Says.{SaysFit}

-- what is there has a number of an object
pub is_at-below : (test : Decl → Bool) (decls : List Decl) (object : ℕ) → is_at test decls object ≡ true → IsObject decls object
is_at-below test [] object is = absurd (cc)
is_at-below test (d ∷ ds) zero is = omega arith
is_at-below test (d ∷ ds) (suc object) is = let more = is_at-below test ds object is in omega arith

module _ (decls : List Decl) where
  item-first : (item : ℕ) (more : Bool) → (nat_lt item (length (places is_item decls)) && more) ≡ true → IsItem decls item
  item-first item more fits = ltb-true item (length (places is_item decls)) (and_parts (nat_lt item (length (places is_item decls))) more fits).0

  queue-second : (item queue : ℕ) → (nat_lt item (length (places is_item decls)) && nat_lt queue (length (places is_queue decls))) ≡ true → IsQueue decls queue
  queue-second item queue fits =
      ltb-true queue (length (places is_queue decls)) (and_parts (nat_lt item (length (places is_item decls))) (nat_lt queue (length (places is_queue decls))) fits).1

  target-fits : (named : Option ℕ) → option_map_or (λ queue. nat_lt queue (length (places is_queue decls))) named true ≡ true → IsTarget decls named
  target-fits None fits = tt
  target-fits (Some queue) fits = ltb-true queue (length (places is_queue decls)) fits

  pub work-op : (op : WorkOp) → step_fits decls (steps.Work op) ≡ true → AreSized (work.said_of op).1 → work_read.FitsOp decls op
  work-op (ops.Submit item named) fits sized =
      let target = option_map_or (λ queue. nat_lt queue (length (places is_queue decls))) named true in
      (item-first item target fits, target-fits named (and_parts (nat_lt item (length (places is_item decls))) target fits).1)
  work-op (ops.Cancel item) fits sized = ltb-true item (length (places is_item decls)) fits
  work-op (ops.CancelStart item) fits sized = ltb-true item (length (places is_item decls)) fits
  work-op (ops.CancelDone place) fits sized = sized.0
  work-op (ops.FlushStart item) fits sized = ltb-true item (length (places is_item decls)) fits
  work-op (ops.FlushDone place) fits sized = sized.0
  work-op (ops.Schedule item queue delay) fits sized = (item-first item (nat_lt queue (length (places is_queue decls))) fits, queue-second item queue fits, sized.1.1.0)
  work-op (ops.Reschedule item queue delay) fits sized = (item-first item (nat_lt queue (length (places is_queue decls))) fits, queue-second item queue fits, sized.1.1.0)
  work-op (ops.Remaining item) fits sized = ltb-true item (length (places is_item decls)) fits
  work-op (ops.Start queue) fits sized = ltb-true queue (length (places is_queue decls)) fits
  work-op (ops.DrainStart queue plug) fits sized = ltb-true queue (length (places is_queue decls)) fits
  work-op (ops.DrainDone place) fits sized = sized.0
  work-op (ops.Unplug queue) fits sized = ltb-true queue (length (places is_queue decls)) fits
  work-op (ops.Stop queue) fits sized = ltb-true queue (length (places is_queue decls)) fits
  work-op (ops.Announce ticks) fits sized = sized.0
  work-op (ops.Begin queue) fits sized = ltb-true queue (length (places is_queue decls)) fits
  work-op (ops.End queue) fits sized = ltb-true queue (length (places is_queue decls)) fits

  pub clock-op : (op : ClockOp) → AreSized (clock.said_of op).1 → clock_read.FitsOp decls op
  clock-op (clock_ops.Announce ticks) sized = sized.0
  clock-op (clock_ops.Alarm ticks) sized = sized.0
  clock-op (clock_ops.AlarmEnd moment) sized = sized.0

  thread-object : (thread object : ℕ) → (is_at (is_met needs.Thread) decls thread && is_object decls object) ≡ true → table_read.FitsOp decls (table_ops.Grant thread object)
  thread-object thread object fits =
      let both = and_parts (is_at (is_met needs.Thread) decls thread) (is_object decls object) fits in
      (both.0, is_at-below (is_met needs.Any) decls object both.1)

  pub table-op : (op : TableOp) → step_fits decls (steps.Table op) ≡ true → table_read.FitsOp decls op
  table-op (table_ops.Check None need) fits = tt
  table-op (table_ops.Check (Some object) need) fits = is_at-below (is_met needs.Any) decls object fits
  table-op (table_ops.Grant thread object) fits = thread-object thread object fits
  table-op (table_ops.Revoke thread object) fits = thread-object thread object fits
  table-op (table_ops.Release object) fits = is_at-below (is_met needs.Any) decls object fits
  table-op (table_ops.Public object) fits = is_at-below (is_met needs.Any) decls object fits
  table-op (table_ops.Init object) fits = is_at-below (is_met needs.Any) decls object fits
  table-op table_ops.EnterUser fits = tt

  pub sem-op : (op : SemOp) → AreSized (sem.said_of op).1 → sem_read.FitsOp decls op
  sem-op (sem_ops.TakeEnd place) sized = sized.0
  sem-op (sem_ops.TakeQuit place) sized = sized.0
  sem-op (sem_ops.PollEnd place) sized = sized.0
  sem-op (sem_ops.PollQuit place) sized = sized.0
  sem-op op sized = tt

  pub msgq-op : (object : ℕ) (op : MsgqOp) → SaysFit decls (steps.Msgq object op) → AreSized (msgq.said_of op).1 → msgq_read.FitsOp decls op
  msgq-op object (msgq_ops.Put message waits) says sized = record { size = says; bytes = sized.0 }
  msgq-op object (msgq_ops.PutFront message) says sized = record { size = says; bytes = sized.0 }
  msgq-op object (msgq_ops.PutEnd place) says sized = sized.0
  msgq-op object (msgq_ops.PutQuit place) says sized = sized.0
  msgq-op object (msgq_ops.GetEnd place) says sized = sized.0
  msgq-op object (msgq_ops.GetQuit place) says sized = sized.0
  msgq-op object (msgq_ops.PeekAt index) says sized = sized.0
  msgq-op object (msgq_ops.PollEnd place) says sized = sized.0
  msgq-op object (msgq_ops.PollQuit place) says sized = sized.0
  msgq-op object op says sized = tt

  pub signal-op : (op : SignalOp) → IsSizedWrite op → signal_read.FitsOp decls op
  signal-op (signal_ops.Raise value) sized = sized
  signal-op signal_ops.Clear sized = tt

  pub chan-op : (object : ℕ) (op : ChanOp) → SaysFit decls (steps.Chan object op) → AreSized (chan.said_of op).1 → chan_read.FitsOp decls op
  chan-op object (chan_ops.Offer message waits) says sized = record { size = says; bytes = sized.0 }
  chan-op object (chan_ops.ClaimEnd place) says sized = sized.0
  chan-op object (chan_ops.ClaimQuit place) says sized = sized.0
  chan-op object (chan_ops.Set message) says sized = record { size = says; bytes = sized.0 }
  chan-op object (chan_ops.Mask observer on) says sized = says
  chan-op object op says sized = tt

  pub obs-op : (object : ℕ) (op : ObsOp) → SaysFit decls (steps.Obs object op) → AreSized (obs.said_of op).1 → obs_read.FitsOp decls op
  obs-op object (obs_ops.Visit channel) says sized = says
  obs-op object (obs_ops.TakeEnd place) says sized = sized.0
  obs-op object (obs_ops.TakeQuit place) says sized = sized.0
  obs-op object op says sized = tt
