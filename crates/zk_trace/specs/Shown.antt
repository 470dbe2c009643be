use Rattle.std.specs.Prelude.{None}
use Rattle.zk_worker.specs.Shown.{Shown}
use Rattle.zk_trace.specs.declared.trace.Trace.{Trace}

-- what a trace shows: the whole history of each service
abbrev pub trace_shown : Trace → Shown
trace_shown t = record {
  work = t.work;
  clock = t.clock;
  table = t.table;
  sems = t.sems;
  msgqs = t.msgqs;
  signals = t.signals;
  chans = t.chans;
  observers = t.observers;
  looks = None;
  looked = None;
}
