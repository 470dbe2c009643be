use Rattle.std.proofs.Common.{None, length, sym, subst}
use Rattle.zk_base.specs.Legal.{IsLegal}
use Rattle.zk_model_wait.specs.Clock.{clock_machine}
use Rattle.zk_model_wait.specs.Sem.{sem_machine}
use Rattle.zk_model_wait.specs.Msgq.{msgq_machine}
use Rattle.zk_model_wait.specs.Signal.{signal_machine}
use Rattle.zk_model_bus.specs.Channel.{chan_machine}
use Rattle.zk_model_bus.specs.Observer.{obs_machine}
use Rattle.zk_model_bus.specs.Table.{table_machine}
use Rattle.zk_model_work.specs.Machine.{work_machine}
use Rattle.zk_bus.specs.Seen.{chan_start, chan_history}
use Rattle.zk_msgq.specs.Seen.{msgq_start, msgq_history}
use Rattle.zk_poll.specs.Seen.{signal_history}
use Rattle.zk_sem.specs.Seen.{sem_start, sem_history}
use Rattle.zk_services.specs.Objects.{histories_of}
use Rattle.zk_subq.specs.Seen.{obs_start, obs_history}
use Rattle.zk_cells.specs.Closed.{AreBy, AreInStep}
use Rattle.zk_cells.specs.Joined.{numbers_of}
use Rattle.zk_cells.proofs.Emptied.{plays-at, all-of-signals, starts-out-signals, legal-out-signals, within-out-signals, mine-out-signals}
use Rattle.zk_cells.proofs.Unpacking.{histories-out, starts-out, legal-out, within-out, mine-out, legal-moved, short-moved}
use Rattle.zk_cells.proofs.emptying.empty_cells.Goals as goal

pub empty_one-requires-2 : goal.empty_one-requires-2
empty_one-requires-2 c =
    let all = c.requires.all in
    record { all = (all.0, all.2.clock, all.4.clock) }

pub empty_one-requires-3 : goal.empty_one-requires-3
empty_one-requires-3 c =
    let all = c.requires.all in
    record { all = (all.0, all.2.table, all.4.table) }

pub empty_signals-requires-clause-all : goal.empty_signals-requires-clause-all
empty_signals-requires-clause-all c = all-of-signals c.args.cells c.args.all c.deref.result.now c.deref.ensures.value c.requires.all

pub empty_signals-requires-clause-steps : goal.empty_signals-requires-clause-steps
empty_signals-requires-clause-steps c = subst AreInStep (sym c.deref.ensures.value) c.requires.steps

pub returns-clause-machines : goal.returns-clause-machines
returns-clause-machines c =
    let k = c.args.cells in
    let p = c.args.all in
    let xs = c.in_ok-empty_signals.field-0.items in
    let plays = plays-at k p c.deref.result.now c.deref.ensures.value xs c.in_ok-empty_signals.ensures in
    λ i. record {
      work = work_machine;
      work_start = c.empty_one.ensures.start i;
      items = k.items.items;
      most = k.most;
      clock = clock_machine;
      clock_start = c.empty_one-2.ensures.start i;
      table = table_machine;
      table_start = c.empty_one-3.ensures.start i;
      sems = record { machine = sem_machine; starts = starts-out (IsLegal sem_machine) sem_start sem_history k.sems.items p.sems.items c.in_ok-empty_rows.field-0.items c.in_ok-empty_rows.ensures i };
      msgqs = record { machine = msgq_machine; starts = starts-out (IsLegal msgq_machine) msgq_start msgq_history k.msgqs.items p.msgqs.items c.in_ok-empty_rows-2.field-0.items c.in_ok-empty_rows-2.ensures i };
      signals = record { machine = signal_machine; starts = starts-out-signals k p c.requires.all xs plays i };
      chans = record { machine = chan_machine; starts = starts-out (IsLegal chan_machine) chan_start chan_history k.chans.items p.chans.items c.in_ok-empty_rows-3.field-0.items c.in_ok-empty_rows-3.ensures i };
      observers = record { machine = obs_machine; starts = starts-out (IsLegal obs_machine) obs_start obs_history k.observers.items p.observers.items c.in_ok-empty_rows-4.field-0.items c.in_ok-empty_rows-4.ensures i };
    }

pub returns-clause-shown : goal.returns-clause-shown
returns-clause-shown c =
    let k = c.args.cells in
    let p = c.args.all in
    λ i. record {
      work = c.empty_one.ensures.history i;
      clock = c.empty_one-2.ensures.history i;
      table = c.empty_one-3.ensures.history i;
      sems = histories-out (IsLegal sem_machine) sem_start sem_history k.sems.items p.sems.items c.in_ok-empty_rows.field-0.items c.in_ok-empty_rows.ensures i;
      msgqs = histories-out (IsLegal msgq_machine) msgq_start msgq_history k.msgqs.items p.msgqs.items c.in_ok-empty_rows-2.field-0.items c.in_ok-empty_rows-2.ensures i;
      signals = histories_of signal_history c.in_ok-empty_signals.field-0.items;
      chans = histories-out (IsLegal chan_machine) chan_start chan_history k.chans.items p.chans.items c.in_ok-empty_rows-3.field-0.items c.in_ok-empty_rows-3.ensures i;
      observers = histories-out (IsLegal obs_machine) obs_start obs_history k.observers.items p.observers.items c.in_ok-empty_rows-4.field-0.items c.in_ok-empty_rows-4.ensures i;
      looks = None;
      looked = None;
    }

pub returns-clause-legal : goal.returns-clause-legal
returns-clause-legal c =
    let k = c.args.cells in
    let p = c.args.all in
    let xs = c.in_ok-empty_signals.field-0.items in
    let plays = plays-at k p c.deref.result.now c.deref.ensures.value xs c.in_ok-empty_signals.ensures in
    record {
      work = legal-moved work_machine _ _ _ _ c.empty_one.ensures.start c.empty_one.ensures.history c.empty_one.ensures.legal;
      clock = legal-moved clock_machine _ _ _ _ c.empty_one-2.ensures.start c.empty_one-2.ensures.history c.empty_one-2.ensures.legal;
      table = legal-moved table_machine _ _ _ _ c.empty_one-3.ensures.start c.empty_one-3.ensures.history c.empty_one-3.ensures.legal;
      sems = legal-out sem_machine sem_start sem_history k.sems.items p.sems.items c.in_ok-empty_rows.field-0.items c.in_ok-empty_rows.ensures;
      msgqs = legal-out msgq_machine msgq_start msgq_history k.msgqs.items p.msgqs.items c.in_ok-empty_rows-2.field-0.items c.in_ok-empty_rows-2.ensures;
      signals = legal-out-signals k p c.requires.all xs plays;
      chans = legal-out chan_machine chan_start chan_history k.chans.items p.chans.items c.in_ok-empty_rows-3.field-0.items c.in_ok-empty_rows-3.ensures;
      observers = legal-out obs_machine obs_start obs_history k.observers.items p.observers.items c.in_ok-empty_rows-4.field-0.items c.in_ok-empty_rows-4.ensures;
    }

pub returns-clause-short : goal.returns-clause-short
returns-clause-short c = λ ws whole.
    let k = c.args.cells in
    let p = c.args.all in
    let xs = c.in_ok-empty_signals.field-0.items in
    let plays = plays-at k p c.deref.result.now c.deref.ensures.value xs c.in_ok-empty_signals.ensures in
    record {
      work = short-moved _ _ (length ws) _ c.empty_one.ensures.history whole.work c.empty_one.ensures.short;
      clock = short-moved _ _ (length ws) _ c.empty_one-2.ensures.history whole.clock c.empty_one-2.ensures.short;
      table = short-moved _ _ (length ws) _ c.empty_one-3.ensures.history whole.table c.empty_one-3.ensures.short;
      sems = within-out (IsLegal sem_machine) sem_start sem_history (length ws) k.sems.items p.sems.items c.in_ok-empty_rows.field-0.items c.in_ok-empty_rows.ensures whole.sems;
      msgqs = within-out (IsLegal msgq_machine) msgq_start msgq_history (length ws) k.msgqs.items p.msgqs.items c.in_ok-empty_rows-2.field-0.items c.in_ok-empty_rows-2.ensures whole.msgqs;
      signals = within-out-signals k p (length ws) c.requires.all whole xs plays;
      chans = within-out (IsLegal chan_machine) chan_start chan_history (length ws) k.chans.items p.chans.items c.in_ok-empty_rows-3.field-0.items c.in_ok-empty_rows-3.ensures whole.chans;
      observers = within-out (IsLegal obs_machine) obs_start obs_history (length ws) k.observers.items p.observers.items c.in_ok-empty_rows-4.field-0.items c.in_ok-empty_rows-4.ensures whole.observers;
    }

pub returns-clause-mine : goal.returns-clause-mine
returns-clause-mine c = λ ws stand by.
    let k = c.args.cells in
    let p = c.args.all in
    let xs = c.in_ok-empty_signals.field-0.items in
    let plays = plays-at k p c.deref.result.now c.deref.ensures.value xs c.in_ok-empty_signals.ensures in
    record {
      work = subst (AreBy ws) c.empty_one.ensures.history (c.empty_one.ensures.mine ws stand.work);
      clock = subst (AreBy ws) c.empty_one-2.ensures.history (c.empty_one-2.ensures.mine ws stand.clock);
      table = subst (AreBy ws) c.empty_one-3.ensures.history (c.empty_one-3.ensures.mine ws stand.table);
      sems = mine-out (IsLegal sem_machine) sem_start sem_history ws k.sems.items p.sems.items c.in_ok-empty_rows.field-0.items c.in_ok-empty_rows.ensures stand.sems;
      msgqs = mine-out (IsLegal msgq_machine) msgq_start msgq_history ws k.msgqs.items p.msgqs.items c.in_ok-empty_rows-2.field-0.items c.in_ok-empty_rows-2.ensures stand.msgqs;
      signals = mine-out-signals k p ws c.requires.all by xs plays;
      chans = mine-out (IsLegal chan_machine) chan_start chan_history ws k.chans.items p.chans.items c.in_ok-empty_rows-3.field-0.items c.in_ok-empty_rows-3.ensures stand.chans;
      observers = mine-out (IsLegal obs_machine) obs_start obs_history ws k.observers.items p.observers.items c.in_ok-empty_rows-4.field-0.items c.in_ok-empty_rows-4.ensures stand.observers;
    }

pub returns-clause-played : goal.returns-clause-played
returns-clause-played c = λ ws found shared.
    let k = c.args.cells in
    let p = c.args.all in
    let xs = c.in_ok-empty_signals.field-0.items in
    let plays = plays-at k p c.deref.result.now c.deref.ensures.value xs c.in_ok-empty_signals.ensures in
    plays (numbers_of ws) found shared
