use Rattle.std.proofs.Common.{ap, arith, length, count_by}
use Rattle.zk_line.specs.Objects.{is_chan}
use Rattle.zk_line.proofs.Tables.{length-places}
use Rattle.zk_line.proofs.objects.Objects.chan_count.Goals as goal

pub returns : goal.returns
returns c =
    omega (arith, c.len.ensures, c.self.inside.lists.chans.ok.0, ap length c.self.invariant.each_chan, length-places is_chan c.self.inside.decls.items, ap (count_by is_chan) c.self.view_is)
