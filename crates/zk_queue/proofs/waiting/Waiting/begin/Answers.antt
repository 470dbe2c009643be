use Rattle.std.proofs.Common.{Option, ◌++◌, map, All, option_to_list, sym, ap, subst, ◌∙◌, ◌<◌, arith}
use Rattle.std.specs.Option.{option_map_or}
use Rattle.zk_model_work.specs.Lists.{first}
use Rattle.zk_queue.specs.declared.ticket.Ticket.{Ticket}
use Rattle.zk_queue.specs.Line.{InLine, without}
use Rattle.zk_queue.specs.Ring.{living, KeepsBut}
use Rattle.zk_queue.proofs.Keeping.{begins, begins_line, begins_kept, begins_next, lowest, skips_kept, skips_next, line-set, gone}
use Rattle.zk_queue.proofs.waiting.Waiting.begin.Goals as goal

pub invariant_of-self : goal.invariant_of-self
invariant_of-self c =
    let b = begins c.self.inside.places.items c.self.inside.rings.items c.args.self.now c.args.queue c.index_mut-ring.result.now
    c.self.view_is c.self.invariant c.requires c.index_mut-ring.ensures.value in
    skips_kept _ _ _ c.index_mut-ring.result.now c.pop.new.self b.kept b.read
    (sym (c.pop.ensures.next ∙ ap (λ (e : Option Ticket). option_to_list e ++ living c.pop.new.self.entries) c.in_err-ticket.was))
    c.pop.ensures.capacity
    (subst (λ (e : Option Ticket). KeepsBut e c.index_mut-ring.result.now c.pop.new.self) c.in_err-ticket.was c.pop.ensures.keeps)

pub returns-in_err-ticket-clause-lowest : goal.returns-in_err-ticket-clause-lowest
returns-in_err-ticket-clause-lowest c =
    let b = begins c.self.inside.places.items c.self.inside.rings.items c.args.self.now c.args.queue c.index_mut-ring.result.now
    c.self.view_is c.self.invariant c.requires c.index_mut-ring.ensures.value in
    c.from_residual.ensures ∙ sym c.in_err-ticket.was ∙ c.pop.ensures.first ∙ ap first (begins_line _ _ _ _ _ b)

pub returns-in_err-ticket-clause-next : goal.returns-in_err-ticket-clause-next
returns-in_err-ticket-clause-next c =
    let b = begins c.self.inside.places.items c.self.inside.rings.items c.args.self.now c.args.queue c.index_mut-ring.result.now
    c.self.view_is c.self.invariant c.requires c.index_mut-ring.ensures.value in
    let same = skips_next _ _ _ c.index_mut-ring.result.now c.pop.new.self b.read
    (sym (c.pop.ensures.next ∙ ap (λ (e : Option Ticket). option_to_list e ++ living c.pop.new.self.entries) c.in_err-ticket.was)) in
    same ∙ b.seen
    ∙ ap (λ (r : Option Ticket). option_map_or (λ t. map (without t.item) c.args.self.now.lines) r c.args.self.now.lines)
    (sym c.from_residual.ensures)

pub invariant_of-self-2 : goal.invariant_of-self-2
invariant_of-self-2 c =
    let b = begins c.self.inside.places.items c.self.inside.rings.items c.args.self.now c.args.queue c.index_mut-ring.result.now
    c.self.view_is c.self.invariant c.requires c.index_mut-ring.ensures.value in
    begins_kept _ _ _ _ c.index_mut-ring.result.now c.pop.new.self c.in_ok-ticket.ticket b
    (c.pop.ensures.next ∙ ap (λ (e : Option Ticket). option_to_list e ++ living c.pop.new.self.entries) c.in_ok-ticket.was)
    c.pop.ensures.capacity
    (subst (λ (e : Option Ticket). KeepsBut e c.index_mut-ring.result.now c.pop.new.self) c.in_ok-ticket.was c.pop.ensures.keeps)

pub index_mut-requires : goal.index_mut-requires
index_mut-requires c =
    let b = begins c.self.inside.places.items c.self.inside.rings.items c.args.self.now c.args.queue c.index_mut-ring.result.now
    c.self.view_is c.self.invariant c.requires c.index_mut-ring.ensures.value in
    let low = lowest _ _ _ _ c.index_mut-ring.result.now c.pop.new.self c.in_ok-ticket.ticket b
    (c.pop.ensures.next ∙ ap (λ (e : Option Ticket). option_to_list e ++ living c.pop.new.self.entries) c.in_ok-ticket.was) in
    omega (arith, low.item_in, c.self.inside.places.ok.0)

pub returns-clause-lowest : goal.returns-clause-lowest
returns-clause-lowest c =
    let b = begins c.self.inside.places.items c.self.inside.rings.items c.args.self.now c.args.queue c.index_mut-ring.result.now
    c.self.view_is c.self.invariant c.requires c.index_mut-ring.ensures.value in
    sym c.in_ok-ticket.was ∙ c.pop.ensures.first ∙ ap first (begins_line _ _ _ _ _ b)

pub returns-clause-next : goal.returns-clause-next
returns-clause-next c =
    let b = begins c.self.inside.places.items c.self.inside.rings.items c.args.self.now c.args.queue c.index_mut-ring.result.now
    c.self.view_is c.self.invariant c.requires c.index_mut-ring.ensures.value in
    begins_next _ _ _ _ c.index_mut-ring.result.now c.pop.new.self c.in_ok-ticket.ticket b
    (c.pop.ensures.next ∙ ap (λ (e : Option Ticket). option_to_list e ++ living c.pop.new.self.entries) c.in_ok-ticket.was)

pub returns-clause-gone : goal.returns-clause-gone
returns-clause-gone c =
    let b = begins c.self.inside.places.items c.self.inside.rings.items c.args.self.now c.args.queue c.index_mut-ring.result.now
    c.self.view_is c.self.invariant c.requires c.index_mut-ring.ensures.value in
    let next = c.pop.ensures.next
    ∙ ap (λ (e : Option Ticket). option_to_list e ++ living c.pop.new.self.entries) c.in_ok-ticket.was in
    gone c.self.inside.places.items _ c.in_ok-ticket.ticket.item
    (begins_kept _ _ _ _ c.index_mut-ring.result.now c.pop.new.self c.in_ok-ticket.ticket b next c.pop.ensures.capacity
    (subst (λ (e : Option Ticket). KeepsBut e c.index_mut-ring.result.now c.pop.new.self) c.in_ok-ticket.was c.pop.ensures.keeps))
    (lowest _ _ _ _ c.index_mut-ring.result.now c.pop.new.self c.in_ok-ticket.ticket b next).item_in

pub returns-clause-rising : goal.returns-clause-rising
returns-clause-rising c =
    let b = begins c.self.inside.places.items c.self.inside.rings.items c.args.self.now c.args.queue c.index_mut-ring.result.now
    c.self.view_is c.self.invariant c.requires c.index_mut-ring.ensures.value in
    let low = lowest _ _ _ _ c.index_mut-ring.result.now c.pop.new.self c.in_ok-ticket.ticket b
    (c.pop.ensures.next ∙ ap (λ (e : Option Ticket). option_to_list e ++ living c.pop.new.self.entries) c.in_ok-ticket.was) in
    subst (All (λ (later : Ticket). c.in_ok-ticket.ticket.number < later.number))
    (sym (line-set c.self.inside.rings.items c.args.queue c.pop.new.self b.read.within)) low.rising

pub returns-clause-item : goal.returns-clause-item
returns-clause-item c =
    let b = begins c.self.inside.places.items c.self.inside.rings.items c.args.self.now c.args.queue c.index_mut-ring.result.now
    c.self.view_is c.self.invariant c.requires c.index_mut-ring.ensures.value in
    let low = lowest _ _ _ _ c.index_mut-ring.result.now c.pop.new.self c.in_ok-ticket.ticket b
    (c.pop.ensures.next ∙ ap (λ (e : Option Ticket). option_to_list e ++ living c.pop.new.self.entries) c.in_ok-ticket.was) in
    let within = low.item_in in
    let items = ap (λ (w : InLine). w.items) c.self.view_is in
    omega arith
