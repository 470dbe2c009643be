use Rattle.std.specs.Prelude.{List, length}
use Rattle.zk_worker.specs.declared.log.Log.{Log}
use Rattle.zk_worker.specs.Shown.{Shown}
use Rattle.zk_trace.specs.declared.trace.Ending.{Ending}
use Rattle.zk_trace.specs.declared.trace.Trace.{Trace}
use Rattle.zk_trace.specs.Looked.{item_looks_of, signal_looks_of}

-- the trace of all that services show and that players did, with this ending; its looks are those of the logs
abbrev pub gathered : Ending → Shown → List Log → Trace
gathered ending shown logs = record {
  ending = ending;
  work = shown.work;
  clock = shown.clock;
  table = shown.table;
  sems = shown.sems;
  msgqs = shown.msgqs;
  signals = shown.signals;
  chans = shown.chans;
  observers = shown.observers;
  looks = record { items = item_looks_of logs; signals = signal_looks_of (length shown.signals) logs };
  logs = logs;
}
