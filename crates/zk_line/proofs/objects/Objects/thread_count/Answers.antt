use Rattle.std.proofs.Common.{ap, arith, length, count_by}
use Rattle.zk_line.specs.Objects.{is_thread}
use Rattle.zk_line.proofs.Tables.{length-places}
use Rattle.zk_line.proofs.objects.Objects.thread_count.Goals as goal

pub returns : goal.returns
returns c =
    omega (arith, c.len.ensures, c.self.inside.lists.threads.ok.0, ap length c.self.invariant.each_thread, length-places is_thread c.self.inside.decls.items, ap (count_by is_thread) c.self.view_is)
