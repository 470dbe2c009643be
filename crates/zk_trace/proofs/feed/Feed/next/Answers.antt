use Rattle.std.proofs.Common.{sym, ◌∙◌}
use Rattle.zk_trace.proofs.Feeds.{lines-there, lines-nowhere}
use Rattle.zk_trace.proofs.feed.Feed.next.Goals as goal

pub returns-in-Some : goal.returns-in-Some
returns-in-Some c = sym c.self.view_is ∙ lines-there c.self.inside.rest.now c.in-Some.cut.0.now c.in-Some.cut.1.now c.in-Some.ensures

pub returns-in-None : goal.returns-in-None
returns-in-None c = sym c.self.view_is ∙ lines-nowhere c.self.inside.rest.now c.in-None.ensures
