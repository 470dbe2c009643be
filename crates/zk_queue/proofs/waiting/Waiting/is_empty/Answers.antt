use Rattle.std.proofs.Common.{List, length, ap, ◌==◌, ◌∙◌}
use Rattle.zk_queue.specs.declared.ticket.Ticket.{Ticket}
use Rattle.zk_queue.proofs.Keeping.{begins, begins_line}
use Rattle.zk_queue.proofs.waiting.Waiting.is_empty.Goals as goal

pub returns : goal.returns
returns c =
    let b = begins c.self.inside.places.items c.self.inside.rings.items c.args.self.now c.args.queue c.index-ring.result.now
    c.self.view_is c.self.invariant c.requires c.index-ring.ensures in
    c.is_empty.ensures ∙ ap (λ (ts : List Ticket). length ts == 0) (begins_line _ _ _ _ _ b)
