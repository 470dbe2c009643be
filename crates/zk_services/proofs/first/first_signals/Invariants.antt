use Rattle.std.proofs.Common.{◌≡◌, ◌++◌, length, map}
use Rattle.zk_poll.specs.Seen.{signal_start, signal_history}
use Rattle.zk_worker.specs.Families.{no_entries}
use Rattle.zk_worker.specs.Machines as machines
use Rattle.zk_services.specs.Objects.{starts_of, histories_of}
use Rattle.zk_services.proofs.first.first_signals.Given as goal

abbrev pub invariant-loop-decls : goal.invariant-loop-decls
invariant-loop-decls l = record {
  starts : starts_of signal_start l.signals.items ++ map machines.signal_start l.decls ≡ map machines.signal_start l.initial.decls;
  none : histories_of signal_history l.signals.items ++ no_entries l.decls ≡ no_entries l.initial.decls;
}

abbrev pub decreases-loop-decls : goal.decreases-loop-decls
decreases-loop-decls l = length l.decls
