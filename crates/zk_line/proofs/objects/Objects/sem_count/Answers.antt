use Rattle.std.proofs.Common.{ap, arith, length, count_by}
use Rattle.zk_line.specs.Objects.{is_sem}
use Rattle.zk_line.proofs.Tables.{length-places}
use Rattle.zk_line.proofs.objects.Objects.sem_count.Goals as goal

pub returns : goal.returns
returns c =
    omega (arith, c.len.ensures, c.self.inside.lists.sems.ok.0, ap length c.self.invariant.each_sem, length-places is_sem c.self.inside.decls.items, ap (count_by is_sem) c.self.view_is)
