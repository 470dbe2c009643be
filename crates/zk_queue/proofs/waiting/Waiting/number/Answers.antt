use Rattle.std.proofs.Common.{◌≡◌, None, option_map, sym, ap, ◌∙◌, arith}
use Rattle.zk_queue.specs.declared.ticket.Ticket.{Ticket}
use Rattle.zk_queue.specs.Line.{number_among}
use Rattle.zk_queue.proofs.Keeping.{drops_none, drops, number_at}
use Rattle.zk_queue.proofs.waiting.Waiting.number.Goals as goal

pub returns-in_err-place : goal.returns-in_err-place
returns-in_err-place c =
    c.from_residual.ensures
    ∙ sym (drops_none c.self.inside.places.items c.self.inside.rings.items c.args.self.now c.args.item c.index.result.now
    c.self.view_is c.self.invariant c.requires c.index.ensures c.in_err-place.was).0

pub index-ring-requires : goal.index-ring-requires
index-ring-requires c =
    let d = drops c.self.inside.places.items c.self.inside.rings.items c.args.self.now c.args.item c.in_ok-place.place
    c.index.result.now
    c.self.view_is c.self.invariant c.requires c.index.ensures c.in_ok-place.was in
    omega (arith, d.queue_in, c.self.inside.rings.ok.0)

pub returns-in_err-ticket : goal.returns-in_err-ticket
returns-in_err-ticket c =
    let d = drops c.self.inside.places.items c.self.inside.rings.items c.args.self.now c.args.item c.in_ok-place.place
    c.index.result.now
    c.self.view_is c.self.invariant c.requires c.index.ensures c.in_ok-place.was in
    let at = number_at _ _ _ _ _ c.index-ring.result.now d c.index-ring.ensures in
    let none : number_among c.args.item c.args.self.now.lines ≡ None =
    at ∙ ap (option_map (λ (t : Ticket). t.number)) (sym c.ticket.ensures ∙ c.in_err-ticket.was) in
    cc

pub returns : goal.returns
returns c =
    let d = drops c.self.inside.places.items c.self.inside.rings.items c.args.self.now c.args.item c.in_ok-place.place
    c.index.result.now
    c.self.view_is c.self.invariant c.requires c.index.ensures c.in_ok-place.was in
    sym (number_at _ _ _ _ _ c.index-ring.result.now d c.index-ring.ensures
    ∙ ap (option_map (λ (t : Ticket). t.number)) (sym c.ticket.ensures ∙ c.in_ok-ticket.was))
