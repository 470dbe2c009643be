use Rattle.std.proofs.Common.{not, ap, ◌∙◌, arith}
use Rattle.zk_queue.proofs.Lives.{count-pop_dead}
use Rattle.zk_queue.proofs.ring.Ring.pop_entry.Goals as goal

pub overflow_sub-self : goal.overflow_sub-self
overflow_sub-self c =
    let i = c.self.inside in
    let both = count-pop_dead i.dead c.in-Some.entry i.entries.items c.pop_front.new.self.items c.in-Some.ensures.items
    c.self.invariant (c.is_none.ensures ∙ ap not c.if-is_none.true) in
    omega (arith, both.0)

pub invariant_of-self : goal.invariant_of-self
invariant_of-self c =
    let i = c.self.inside in
    (count-pop_dead i.dead c.in-Some.entry i.entries.items c.pop_front.new.self.items c.in-Some.ensures.items
    c.self.invariant (c.is_none.ensures ∙ ap not c.if-is_none.true)).1
