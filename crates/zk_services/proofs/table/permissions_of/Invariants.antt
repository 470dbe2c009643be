use Rattle.std.proofs.Common.{◌≡◌, ◌++◌, length, map}
use Rattle.zk_scenario.specs.Written.{permissions}
use Rattle.zk_worker.specs.TableSetup.{permission_of}
use Rattle.zk_services.proofs.table.permissions_of.Given as goal

abbrev pub invariant-loop-lines : goal.invariant-loop-lines
invariant-loop-lines l =
    l.all.items ++ map (permission_of l.scenario.decls) (permissions l.lines) ≡ map (permission_of l.scenario.decls) (permissions l.initial.lines)

abbrev pub decreases-loop-lines : goal.decreases-loop-lines
decreases-loop-lines l = length l.lines
