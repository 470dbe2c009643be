use Rattle.std.proofs.Common.{ap, arith, length, count_by}
use Rattle.zk_line.specs.Objects.{is_msgq}
use Rattle.zk_line.proofs.Tables.{length-places}
use Rattle.zk_line.proofs.objects.Objects.msgq_count.Goals as goal

pub returns : goal.returns
returns c =
    omega (arith, c.len.ensures, c.self.inside.lists.msgqs.ok.0, ap length c.self.invariant.each_msgq, length-places is_msgq c.self.inside.decls.items, ap (count_by is_msgq) c.self.view_is)
