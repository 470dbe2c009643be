-- The histories of a sound world are in form.
use Rattle.std.proofs.Common.{◌≡◌, ℕ, true, Some, List, All, ap, ◌∙◌}
use Rattle.std.specs.List.{AllByRecursion, slice_get}
use Rattle.std.specs.Option.{option_map, option_and_then}
use Rattle.zk_base.specs.declared.ids.Entry.{Entry}
use Rattle.zk_base.proofs.Lists.{All-at}
use Rattle.zk_scenario.specs.Content.{Content}
use Rattle.zk_model_bus.specs.Table.{new_table}
use Rattle.zk_worker.specs.declared.steps.Step.{Step}
use Rattle.zk_worker.specs.declared.steps.Step.TheVariants as steps
use Rattle.zk_worker.specs.declared.steps.Spot.TheVariants as spots
use Rattle.zk_worker.specs.Families.{entry_at}
use Rattle.zk_worker.specs.Ranges.{step_fits}
use Rattle.zk_worker.specs.TableSetup.{setup_of}
use Rattle.zk_trace.specs.declared.trace.Ending.{Ending}
use Rattle.zk_trace.specs.Sized.{AreSized, IsSizedWork, IsSizedWrite, IsSizedEntry, IsSized}
use Rattle.zk_trace.specs.Work as work
use Rattle.zk_trace.specs.WorkRead as work_read
use Rattle.zk_trace.specs.Clock as clock
use Rattle.zk_trace.specs.ClockRead as clock_read
use Rattle.zk_trace.specs.Table as table
use Rattle.zk_trace.specs.TableRead as table_read
use Rattle.zk_trace.specs.Sem as sem
use Rattle.zk_trace.specs.SemRead as sem_read
use Rattle.zk_trace.specs.Msgq as msgq
use Rattle.zk_trace.specs.MsgqRead as msgq_read
use Rattle.zk_trace.specs.Signal as signal
use Rattle.zk_trace.specs.SignalRead as signal_read
use Rattle.zk_trace.specs.Chan as chan
use Rattle.zk_trace.specs.ChanRead as chan_read
use Rattle.zk_trace.specs.Obs as obs
use Rattle.zk_trace.specs.ObsRead as obs_read
use Rattle.zk_trace.proofs.HistoriesFit.{IsAsked, all-there, work-fits, clock-fits, table-fits, sems-fit, msgqs-fit, signals-fit, chans-fit, observers-fit}
use Rattle.zk_trace.proofs.LogAnswers.{ShownFits}
use Rattle.zk_world.specs.Requests.{request, RequestFits}
use Rattle.zk_world.specs.Says.{SaysFit}
use Rattle.zk_world.specs.Sound.{IsSound}
use Rattle.zk_world.specs.Traces.{world_trace}
use Rattle.zk_world.specs.World.{World}
use Rattle.zk_world.proofs.OpsFit.{work-op, clock-op, table-op, sem-op, msgq-op, signal-op, chan-op, obs-op}

module _ {O R : Type 0} (s : Content) (Op : O → Type 0) (Reply : R → Type 0) (FitsOp : O → Type 0) (Sized : R → Type 0) (told : (r : R) → Reply r → Sized r) where
  -- an operation that names what is declared, and whose numbers are within their types, is in form
  abbrev Fitting : (O → Step) → Type 0
  Fitting step = (op : O) → step_fits s.decls (step op) ≡ true → SaysFit s.decls (step op) → Op op → FitsOp op

  history-asked : (step : O → Step) → Fitting step → (h : List (Entry O R)) → ((k : ℕ) (e : Entry O R) → slice_get h k ≡ Some e → RequestFits s (request e.who (step e.op))) →
      All (IsSizedEntry Op Reply) h → AllByRecursion (IsAsked s.decls FitsOp Sized) h
  history-asked step fits h each sized =
      all-there (IsAsked s.decls FitsOp Sized) h (λ k e there.
      let asked = each k e there in
      let numbers = All-at (IsSizedEntry Op Reply) h k e sized there in
      record { known = asked.known; step = numbers.step; op = fits e.op asked.fits asked.says numbers.op; sized = told e.reply numbers.reply })

  histories-asked : (step : ℕ → O → Step) → ((object : ℕ) → Fitting (step object)) → (hs : List (List (Entry O R))) →
      ((object k : ℕ) (e : Entry O R) → entry_at hs object k ≡ Some e → RequestFits s (request e.who (step object e.op))) →
      All (All (IsSizedEntry Op Reply)) hs → AllByRecursion (AllByRecursion (IsAsked s.decls FitsOp Sized)) hs
  histories-asked step fits hs each sized =
      all-there (AllByRecursion (IsAsked s.decls FitsOp Sized)) hs (λ object h there.
      history-asked (step object) (fits object) h (λ k e at. each object k e (ap (option_and_then (λ (h : List (Entry O R)). slice_get h k)) there ∙ at))
      (All-at (All (IsSizedEntry Op Reply)) hs object h sized there))

-- all histories of a sound world are in form, where the numbers of its trace are within their types
pub histories-fit : (s : Content) (ending : Ending) (w : World) → IsSound s w → IsSized (world_trace s ending w) → ShownFits s.decls w.shown
histories-fit s ending w sound sized =
    let ds = s.decls in
    let legal = sound.legal in
    let asked = sound.fitting.requests in
    record {
      work = work-fits s w.shown.work legal.work (history-asked s (λ op. AreSized (work.said_of op).1) IsSizedWork (work_read.FitsOp ds) IsSizedWork (λ r is. is)
          steps.Work (λ op fits says. work-op ds op fits) w.shown.work (λ k e there. asked (spots.Work k) (request e.who (steps.Work e.op)) (ap (option_map (λ e. request e.who (steps.Work e.op))) there)) sized.work);
      clock = clock-fits s w.shown.clock legal.clock (history-asked s (λ op. AreSized (clock.said_of op).1) (λ r. AreSized (clock.reply_parts r)) (clock_read.FitsOp ds) (λ r. AreSized (clock.reply_parts r)) (λ r is. is)
          steps.Clock (λ op fits says. clock-op ds op) w.shown.clock (λ k e there. asked (spots.Clock k) (request e.who (steps.Clock e.op)) (ap (option_map (λ e. request e.who (steps.Clock e.op))) there)) sized.clock);
      table = table-fits s (new_table (setup_of s)) w.shown.table legal.table (history-asked s (λ op. AreSized (table.said_of op).1) (λ r. AreSized (table.reply_parts r)) (table_read.FitsOp ds) (λ r. Unit {0}) (λ r is. tt)
          steps.Table (λ op fits says is. table-op ds op fits) w.shown.table (λ k e there. asked (spots.Table k) (request e.who (steps.Table e.op)) (ap (option_map (λ e. request e.who (steps.Table e.op))) there)) sized.table);
      sems = sems-fit s w.shown.sems legal.sems (histories-asked s (λ op. AreSized (sem.said_of op).1) (λ r. AreSized (sem.reply_parts r)) (sem_read.FitsOp ds) (λ r. AreSized (sem.reply_parts r)) (λ r is. is)
          steps.Sem (λ object op fits says. sem-op ds op) w.shown.sems (λ object k e there. asked (spots.Sem object k) (request e.who (steps.Sem object e.op)) (ap (option_map (λ e. request e.who (steps.Sem object e.op))) there)) sized.sems);
      msgqs = msgqs-fit s w.shown.msgqs legal.msgqs (histories-asked s (λ op. AreSized (msgq.said_of op).1) (λ r. AreSized (msgq.reply_parts r)) (msgq_read.FitsOp ds) (λ r. AreSized (msgq.reply_parts r)) (λ r is. is)
          steps.Msgq (λ object op fits says. msgq-op ds object op says) w.shown.msgqs (λ object k e there. asked (spots.Msgq object k) (request e.who (steps.Msgq object e.op)) (ap (option_map (λ e. request e.who (steps.Msgq object e.op))) there)) sized.msgqs);
      signals = signals-fit s w.shown.signals legal.signals (histories-asked s IsSizedWrite (λ r. AreSized (signal.reply_parts r)) (signal_read.FitsOp ds) (λ r. AreSized (signal.reply_parts r)) (λ r is. is)
          steps.Signal (λ object op fits says. signal-op ds op) w.shown.signals (λ object k e there. asked (spots.Signal object k) (request e.who (steps.Signal object e.op)) (ap (option_map (λ e. request e.who (steps.Signal object e.op))) there)) sized.signals);
      chans = chans-fit s w.shown.chans sound.ready.valid legal.chans (histories-asked s (λ op. AreSized (chan.said_of op).1) (λ r. AreSized (chan.reply_parts r)) (chan_read.FitsOp ds) (λ r. AreSized (chan.reply_parts r)) (λ r is. is)
          steps.Chan (λ object op fits says. chan-op ds object op says) w.shown.chans (λ object k e there. asked (spots.Chan object k) (request e.who (steps.Chan object e.op)) (ap (option_map (λ e. request e.who (steps.Chan object e.op))) there)) sized.chans);
      observers = observers-fit s w.shown.observers legal.observers (histories-asked s (λ op. AreSized (obs.said_of op).1) (λ r. AreSized (obs.reply_parts r)) (obs_read.FitsOp ds) (λ r. Unit {0}) (λ r is. tt)
          steps.Obs (λ object op fits says. obs-op ds object op says) w.shown.observers (λ object k e there. asked (spots.Obs object k) (request e.who (steps.Obs object e.op)) (ap (option_map (λ e. request e.who (steps.Obs object e.op))) there)) sized.observers);
    }
