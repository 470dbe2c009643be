use Rattle.std.proofs.Common.{sym, subst, ◌∙◌}
use Rattle.zk_gathering.specs.Looks.{AreShort}
use Rattle.zk_gathering.proofs.gathering.gather.Goals as goal

pub item_looks-requires : goal.item_looks-requires
item_looks-requires c = subst AreShort (sym (c.items.ensures ∙ c.in_ok-logs.ensures)) c.requires

pub signal_looks-requires : goal.signal_looks-requires
signal_looks-requires c = subst AreShort (sym (c.items-3.ensures ∙ c.in_ok-logs.ensures)) c.requires
