use Rattle.std.proofs.Common.{◌≡◌, true, ◌++◌, length, map}
use Rattle.std.specs.List.{list_all}
use Rattle.zk_msgq.specs.Seen.{msgq_start, msgq_history}
use Rattle.zk_line.specs.Fits.{decl_fits}
use Rattle.zk_worker.specs.Families.{no_entries}
use Rattle.zk_worker.specs.Machines as machines
use Rattle.zk_services.specs.Objects.{starts_of, histories_of}
use Rattle.zk_services.proofs.first.first_msgqs.Given as goal

abbrev pub invariant-loop-decls : goal.invariant-loop-decls
invariant-loop-decls l = record {
  fit : list_all decl_fits l.decls ≡ true;
  starts : starts_of msgq_start l.msgqs.items ++ map machines.msgq_start l.decls ≡ map machines.msgq_start l.initial.decls;
  none : histories_of msgq_history l.msgqs.items ++ no_entries l.decls ≡ no_entries l.initial.decls;
}

abbrev pub decreases-loop-decls : goal.decreases-loop-decls
decreases-loop-decls l = length l.decls
