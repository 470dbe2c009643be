-- Inner: no contract of a top call is made of this file.
use Rattle.std.specs.Prelude.{None}
use Rattle.zk_model_wait.specs.Clock.{clock_machine}
use Rattle.zk_model_wait.specs.Sem.{sem_machine}
use Rattle.zk_model_wait.specs.Msgq.{msgq_machine}
use Rattle.zk_model_wait.specs.Signal.{signal_machine}
use Rattle.zk_model_bus.specs.Channel.{chan_machine}
use Rattle.zk_model_bus.specs.Observer.{obs_machine}
use Rattle.zk_model_bus.specs.Table.{table_machine}
use Rattle.zk_model_work.specs.Machine.{work_machine}
use Rattle.zk_bus.specs.Seen.{chan_start, chan_history}
use Rattle.zk_msgq.specs.Seen.{msgq_start, msgq_history}
use Rattle.zk_objects.specs.Seen.{objects_start, objects_history}
use Rattle.zk_poll.specs.Seen.{signal_start, signal_history}
use Rattle.zk_sem.specs.Seen.{sem_start, sem_history}
use Rattle.zk_subq.specs.Seen.{obs_start, obs_history}
use Rattle.zk_time.specs.ClockSeen.{clock_start, clock_history}
use Rattle.zk_work.specs.Seen.{work_start, work_history}
use Rattle.zk_worker.specs.Machines.{Machines}
use Rattle.zk_worker.specs.Shown.{Shown}
use Rattle.zk_services.specs.declared.plain.Plain.{Plain}
use Rattle.zk_services.specs.Objects.{starts_of, histories_of}

-- the machine of each plain service, and the state that it started in, with how many steps a player may make
abbrev pub plain_machines : Plain → Machines
plain_machines p = record {
  work = work_machine;
  work_start = work_start p.work;
  items = p.items.items;
  most = p.most;
  clock = clock_machine;
  clock_start = clock_start p.clock;
  table = table_machine;
  table_start = objects_start p.table;
  sems = record { machine = sem_machine; starts = starts_of sem_start p.sems.items };
  msgqs = record { machine = msgq_machine; starts = starts_of msgq_start p.msgqs.items };
  signals = record { machine = signal_machine; starts = starts_of signal_start p.signals.items };
  chans = record { machine = chan_machine; starts = starts_of chan_start p.chans.items };
  observers = record { machine = obs_machine; starts = starts_of obs_start p.observers.items };
}

-- what plain services show: the whole history of each
abbrev pub plain_shown : Plain → Shown
plain_shown p = record {
  work = work_history p.work;
  clock = clock_history p.clock;
  table = objects_history p.table;
  sems = histories_of sem_history p.sems.items;
  msgqs = histories_of msgq_history p.msgqs.items;
  signals = histories_of signal_history p.signals.items;
  chans = histories_of chan_history p.chans.items;
  observers = histories_of obs_history p.observers.items;
  looks = None;
  looked = None;
}
