use Rattle.std.proofs.Common.{◌≡◌, Option, Some, None, ◌∷◌, refl, sym, ap, subst, ◌∙◌}
use Rattle.zk_queue.specs.declared.ticket.Ticket.{Ticket}
use Rattle.zk_queue.specs.Ring.{KeepsBut}
use Rattle.zk_queue.proofs.Keeping.{Standing, StandsIn-moved, leaves-set, first-home, home-within}
use Rattle.zk_queue.proofs.Positions.{KeepsBut-after}
use Rattle.zk_queue.proofs.close_up.turn.Goals as goal

pub bounds-places-ticket : goal.bounds-places-ticket
bounds-places-ticket c =
    home-within c.args.places.now c.args.queue c.in-Some.ticket
    (first-home c.args.places.now c.args.queue c.in-Some.ticket c.args.ring.now.entries c.pop_entry.new.self.entries
    (c.pop_entry.ensures.next ∙ ap (λ (e : Option Ticket). e ∷ c.pop_entry.new.self.entries) c.in-Some.is) c.requires.homes)

pub returns-in-Some-clause-stands : goal.returns-in-Some-clause-stands
returns-in-Some-clause-stands c =
    StandsIn-moved c.args.queue c.args.places.now c.in-Some.ticket
    (record { queue = c.args.queue; position = c.push-position.result }) c.args.ring.now c.push-position.new.self
    (Some c.in-Some.ticket)
    (home-within c.args.places.now c.args.queue c.in-Some.ticket
    (first-home c.args.places.now c.args.queue c.in-Some.ticket c.args.ring.now.entries c.pop_entry.new.self.entries
    (c.pop_entry.ensures.next ∙ ap (λ (e : Option Ticket). e ∷ c.pop_entry.new.self.entries) c.in-Some.is) c.requires.homes))
    refl c.push-position.ensures.position
    (KeepsBut-after (Some c.in-Some.ticket) c.args.ring.now c.pop_entry.new.self c.push-position.new.self
    (subst (λ (e : Option Ticket). KeepsBut e c.args.ring.now c.pop_entry.new.self) c.in-Some.is c.pop_entry.ensures.keeps)
    c.push-position.ensures.keeps)
    (λ (u : Ticket) same. sym (some-one c.in-Some.ticket u same)) c.requires.stands where
      some-one : (t u : Ticket) → Some t ≡ Some u → t ≡ u
      some-one t u same = cc

pub returns-in-Some-clause-places : goal.returns-in-Some-clause-places
returns-in-Some-clause-places c =
    leaves-set c.args.queue c.args.places.now c.in-Some.ticket.item
    (record { queue = c.args.queue; position = c.push-position.result }) refl
    (first-home c.args.places.now c.args.queue c.in-Some.ticket c.args.ring.now.entries c.pop_entry.new.self.entries
    (c.pop_entry.ensures.next ∙ ap (λ (e : Option Ticket). e ∷ c.pop_entry.new.self.entries) c.in-Some.is) c.requires.homes)

pub returns-in-None-clause-stands : goal.returns-in-None-clause-stands
returns-in-None-clause-stands c =
    Standing None c.args.places.now c.args.queue c.args.ring.now c.pop_entry.new.self
    (subst (λ (e : Option Ticket). KeepsBut e c.args.ring.now c.pop_entry.new.self) c.in-None.is c.pop_entry.ensures.keeps)
    (λ item p t is never. absurd (cc)) c.requires.stands
