use Rattle.std.proofs.Common.{ap, arith, length, count_by}
use Rattle.zk_line.specs.Objects.{is_signal}
use Rattle.zk_line.proofs.Tables.{length-places}
use Rattle.zk_line.proofs.objects.Objects.signal_count.Goals as goal

pub returns : goal.returns
returns c =
    omega (arith, c.len.ensures, c.self.inside.lists.signals.ok.0, ap length c.self.invariant.each_signal, length-places is_signal c.self.inside.decls.items, ap (count_by is_signal) c.self.view_is)
