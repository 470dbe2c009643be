use Rattle.std.proofs.Common.{Option, None, length, refl, sym, ap, subst, ◌∙◌, arith}
use Rattle.zk_queue.specs.declared.ticket.Ticket.{Ticket}
use Rattle.zk_queue.specs.Ring.{KeepsBut}
use Rattle.zk_queue.proofs.Positions.{KeepsBut-refl, KeepsBut-trans}
use Rattle.zk_queue.proofs.Lives.{pop-skips}
use Rattle.zk_queue.proofs.ring.Ring.pop.Goals as goal

pub loop-init : goal.loop-init
loop-init c = record { line = refl; left = omega arith; capacity = refl; keeps = KeepsBut-refl c.args.self.now }

pub loop-preserved : goal.loop-preserved
loop-preserved c =
    let inv = c.loop.invariant in
    let next = c.pop_entry-entry.ensures.next in
    let skips = pop-skips c.pop_entry-entry.result c.loop.self.entries c.pop_entry-entry.new.self.entries next
    (sym c.is_some.ensures ∙ c.if-is_some.false) in
    let shorter = ap length next in
    let left = inv.left in
    record {
      line = skips.1 ∙ inv.line;
      left = omega arith;
      capacity = c.pop_entry-entry.ensures.capacity ∙ inv.capacity;
      keeps = KeepsBut-trans None c.args.self.now c.loop.self c.pop_entry-entry.new.self inv.keeps
          (subst (λ (e : Option Ticket). KeepsBut e c.loop.self c.pop_entry-entry.new.self) skips.0 c.pop_entry-entry.ensures.keeps);
    }
