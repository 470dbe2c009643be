use Rattle.std.proofs.Common.{length, sym, ap, ◌∙◌}
use Rattle.zk_trace.proofs.Feeds.{lines-count}
use Rattle.zk_trace.proofs.feed.Feed.left.Goals as goal

pub returns : goal.returns
returns c = c.count_of.ensures ∙ sym (lines-count c.self.inside.rest.now) ∙ ap length c.self.view_is
