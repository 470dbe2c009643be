use Rattle.std.proofs.Common.{Some, length, ap, ◌∙◌, arith}
use Rattle.std.proofs.lemmas.List.{length-map}
use Rattle.zk_queue.specs.declared.ticket.Ticket.{Ticket}
use Rattle.zk_queue.specs.Ring.{living}
use Rattle.zk_queue.proofs.Lives.{living-all}
use Rattle.zk_queue.proofs.close_up.make_room.Goals as goal

pub returns-then-is_sparse-clause-line : goal.returns-then-is_sparse-clause-line
returns-then-is_sparse-clause-line c = ap living c.close_up.ensures.next ∙ living-all (living c.args.ring.now.entries)

pub returns-then-is_sparse-clause-dense : goal.returns-then-is_sparse-clause-dense
returns-then-is_sparse-clause-dense c =
    let all = ap length c.close_up.ensures.next ∙ length-map (living c.args.ring.now.entries) (λ (t : Ticket). Some t) in
    let live = ap length (ap living c.close_up.ensures.next ∙ living-all (living c.args.ring.now.entries)) in
    omega arith
