use Rattle.std.proofs.Common.{ap, arith, length, count_by}
use Rattle.zk_line.specs.Objects.{is_observer}
use Rattle.zk_line.proofs.Tables.{length-places}
use Rattle.zk_line.proofs.objects.Objects.observer_count.Goals as goal

pub returns : goal.returns
returns c =
    omega (arith, c.len.ensures, c.self.inside.lists.observers.ok.0, ap length c.self.invariant.each_observer, length-places is_observer c.self.inside.decls.items, ap (count_by is_observer) c.self.view_is)
