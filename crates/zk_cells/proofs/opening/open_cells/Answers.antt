use Rattle.std.proofs.Common.{length, map, option_map, All, sym, ap, subst, ◌∙◌}
use Rattle.zk_model_wait.specs.Clock.{clock_machine}
use Rattle.zk_model_wait.specs.Sem.{sem_machine}
use Rattle.zk_model_wait.specs.Msgq.{msgq_machine}
use Rattle.zk_model_wait.specs.Signal.{signal_machine}
use Rattle.zk_model_bus.specs.Channel.{chan_machine}
use Rattle.zk_model_bus.specs.Observer.{obs_machine}
use Rattle.zk_model_bus.specs.Table.{table_machine}
use Rattle.zk_model_work.specs.Machine.{work_machine}
use Rattle.zk_objects.specs.Seen.{objects_start}
use Rattle.zk_poll.specs.Seen.{signal_start}
use Rattle.zk_time.specs.ClockSeen.{clock_start}
use Rattle.zk_work.specs.Seen.{work_start}
use Rattle.zk_cells.specs.Dealt.{IsBegun}
use Rattle.zk_cells.proofs.opening.open_cells.Goals as goal

pub open_signals-requires-clause-begun : goal.open_signals-requires-clause-begun
open_signals-requires-clause-begun c = subst (All IsBegun) (sym c.deref.ensures.value) c.requires.unused.signals

pub returns-clause-machines : goal.returns-clause-machines
returns-clause-machines c = λ i. record {
  work = work_machine;
  work_start = work_start (c.in_ok-work.ensures.given i);
  items = c.args.services.items.items;
  most = c.args.services.most;
  clock = clock_machine;
  clock_start = clock_start (c.in_ok-clock.ensures.given i);
  table = table_machine;
  table_start = objects_start (c.in_ok-table.ensures.given i);
  sems = record { machine = sem_machine; starts = c.in_ok-sems.ensures.starts i };
  msgqs = record { machine = msgq_machine; starts = c.in_ok-msgqs.ensures.starts i };
  signals = record { machine = signal_machine; starts = (c.in_ok-signals.ensures.starts ∙ ap (map (option_map signal_start)) c.deref.ensures.value) i };
  chans = record { machine = chan_machine; starts = c.in_ok-chans.ensures.starts i };
  observers = record { machine = obs_machine; starts = c.in_ok-observers.ensures.starts i };
}

pub returns-clause-whole : goal.returns-clause-whole
returns-clause-whole c = record {
  work = ap length (sym c.in_ok-work.ensures.players);
  clock = ap length (sym c.in_ok-clock.ensures.players);
  table = ap length (sym c.in_ok-table.ensures.players);
  sems = c.in_ok-sems.ensures.whole;
  msgqs = c.in_ok-msgqs.ensures.whole;
  signals = c.in_ok-signals.ensures.whole;
  chans = c.in_ok-chans.ensures.whole;
  observers = c.in_ok-observers.ensures.whole;
}

pub returns-clause-passes : goal.returns-clause-passes
returns-clause-passes c = record {
  work = c.in_ok-work.ensures.passes;
  clock = c.in_ok-clock.ensures.passes;
  table = c.in_ok-table.ensures.passes;
  sems = c.in_ok-sems.ensures.passes;
  msgqs = c.in_ok-msgqs.ensures.passes;
  signals = c.in_ok-signals.ensures.passes;
  chans = c.in_ok-chans.ensures.passes;
  observers = c.in_ok-observers.ensures.passes;
}
