use Rattle.std.proofs.Common.{ap, arith, length, count_by}
use Rattle.zk_line.specs.Objects.{is_thread, is_queue}
use Rattle.zk_line.proofs.Tables.{length-places}
use Rattle.zk_line.proofs.objects.Objects.player_count.Goals as goal

pub returns : goal.returns
returns c =
    let decls = c.self.inside.decls.items in
    omega (
      arith,
      c.len.ensures,
      c.self.inside.lists.threads.ok.0,
      ap length c.self.invariant.each_thread,
      length-places is_thread decls,
      ap (count_by is_thread) c.self.view_is,
      c.len-2.ensures,
      c.self.inside.lists.queues.ok.0,
      ap length c.self.invariant.each_queue,
      length-places is_queue decls,
      ap (count_by is_queue) c.self.view_is,
    )
