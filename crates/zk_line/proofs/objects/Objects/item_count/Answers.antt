use Rattle.std.proofs.Common.{ap, arith, length, count_by}
use Rattle.zk_line.specs.Objects.{is_item}
use Rattle.zk_line.proofs.Tables.{length-places}
use Rattle.zk_line.proofs.objects.Objects.item_count.Goals as goal

pub returns : goal.returns
returns c =
    omega (arith, c.len.ensures, c.self.inside.lists.items.ok.0, ap length c.self.invariant.each_item, length-places is_item c.self.inside.decls.items, ap (count_by is_item) c.self.view_is)
