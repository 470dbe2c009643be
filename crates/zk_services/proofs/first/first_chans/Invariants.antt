use Rattle.std.proofs.Common.{◌≡◌, true, ◌++◌, length, map}
use Rattle.std.specs.List.{list_all}
use Rattle.zk_bus.specs.Seen.{chan_start, chan_history}
use Rattle.zk_line.specs.Fits.{decl_fits}
use Rattle.zk_worker.specs.Families.{no_entries}
use Rattle.zk_worker.specs.Machines as machines
use Rattle.zk_services.specs.Objects.{starts_of, histories_of}
use Rattle.zk_services.proofs.first.first_chans.Given as goal

abbrev pub invariant-loop-decls : goal.invariant-loop-decls
invariant-loop-decls l = record {
  fit : list_all decl_fits l.decls ≡ true;
  starts : starts_of chan_start l.chans.items ++ map machines.chan_start l.decls ≡ map machines.chan_start l.initial.decls;
  none : histories_of chan_history l.chans.items ++ no_entries l.decls ≡ no_entries l.initial.decls;
}

abbrev pub decreases-loop-decls : goal.decreases-loop-decls
decreases-loop-decls l = length l.decls
