use Rattle.std.proofs.Common.{ap, ◌∙◌}
use Rattle.zk_model_work.specs.Lists.{first}
use Rattle.zk_queue.proofs.Keeping.{begins, begins_line}
use Rattle.zk_queue.proofs.waiting.Waiting.first.Goals as goal

pub returns : goal.returns
returns c =
    let b = begins c.self.inside.places.items c.self.inside.rings.items c.args.self.now c.args.queue c.index-ring.result.now
    c.self.view_is c.self.invariant c.requires c.index-ring.ensures in
    c.first.ensures ∙ ap first (begins_line _ _ _ _ _ b)
