use Rattle.std.proofs.Common.{◌≡◌, true, ◌++◌, length, map}
use Rattle.std.specs.List.{list_all}
use Rattle.zk_sem.specs.Seen.{sem_start, sem_history}
use Rattle.zk_line.specs.Fits.{decl_fits}
use Rattle.zk_worker.specs.Families.{no_entries}
use Rattle.zk_worker.specs.Machines as machines
use Rattle.zk_services.specs.Objects.{starts_of, histories_of}
use Rattle.zk_services.proofs.first.first_sems.Given as goal

abbrev pub invariant-loop-decls : goal.invariant-loop-decls
invariant-loop-decls l = record {
  fit : list_all decl_fits l.decls ≡ true;
  starts : starts_of sem_start l.sems.items ++ map machines.sem_start l.decls ≡ map machines.sem_start l.initial.decls;
  none : histories_of sem_history l.sems.items ++ no_entries l.decls ≡ no_entries l.initial.decls;
}

abbrev pub decreases-loop-decls : goal.decreases-loop-decls
decreases-loop-decls l = length l.decls
