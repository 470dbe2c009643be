use Rattle.std.proofs.Common.{ap, arith, length, count_by}
use Rattle.zk_line.specs.Objects.{is_queue}
use Rattle.zk_line.proofs.Tables.{length-places}
use Rattle.zk_line.proofs.objects.Objects.queue_count.Goals as goal

pub returns : goal.returns
returns c =
    omega (arith, c.len.ensures, c.self.inside.lists.queues.ok.0, ap length c.self.invariant.each_queue, length-places is_queue c.self.inside.decls.items, ap (count_by is_queue) c.self.view_is)
