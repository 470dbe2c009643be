use Rattle.std.proofs.Common.{Some, ◌∷◌, refl, ap, ◌∙◌}
use Rattle.atomic_table.specs.Table.{rest}
use Rattle.zk_base.specs.Legal.{IsLegal}
use Rattle.zk_turn.specs.Words.{KeepsOthers}
use Rattle.zk_turn.proofs.Passes.{ready_now, given_back, may_pass_now}
use Rattle.zk_turn.proofs.cell.Cell.leave.Goals as goal

pub publish-service-requires-clause-ready : goal.publish-service-requires-clause-ready
publish-service-requires-clause-ready g c = ready_now (IsLegal g.S.Service.machine) g.S.Service.start g.S.Service.history
    (KeepsOthers g.S.Service.machine g.S.Service.start g.S.Service.history g.S.Service.word g.S.Service.WORDS g.S.Service.touched) c.args.held c.requires.own.held

pub pass_on-requires-clause-ready : goal.pass_on-requires-clause-ready
pass_on-requires-clause-ready g c =
    let h = c.args.held in
    may_pass_now (IsLegal g.S.Service.machine) g.S.Service.start g.S.Service.history
    (KeepsOthers g.S.Service.machine g.S.Service.start g.S.Service.history g.S.Service.word g.S.Service.WORDS g.S.Service.touched) h c.exchange.new.seat.me c.requires.own.held
    (given_back h.added h.seat.me.0 (g.S.Service.history h.service) h.service h.seat.me c.publish-service.new.seat.me
    c.exchange.new.seat.me refl c.requires.own.held.slots c.publish-service.ensures.done
    (c.exchange.ensures.3 ∙ ap (λ x. (c.publish-service.new.seat.me.0, (0, Some x) ∷ rest c.publish-service.new.seat.me.1))
    c.publish-service.ensures.service))
