use Rattle.std.proofs.Common.{◌<◌, Some, length, sym, ap, subst, ◌∙◌, arith}
use Rattle.zk_base.specs.Legal.{IsLegal}
use Rattle.zk_turn.specs.Steps.{Fits}
use Rattle.zk_turn.specs.Words.{word_after}
use Rattle.zk_turn.specs.Passes.{IsReady}
use Rattle.zk_turn.proofs.Counting.{announces}
use Rattle.zk_turn.proofs.Passes.{back_in, slot_again}
use Rattle.zk_turn.proofs.cell.Cell.announce.Goals as goal

pub load-requires : goal.load-requires
load-requires g c =
    let shared = c.args.self.now.table.shared in
    let shape = c.args.self.now.«shape».0 in
    let wide : 0 < shared.table_id.words = omega arith in
    let in_slot = back_in c.args.seat.now.me c.exchange.new.seat.me c.args.service c.requires.out c.exchange.ensures.3 in (
      c.exchange.ensures.0 ∙ c.requires.table,
      wide,
      announces (IsLegal g.S.Service.machine) (Fits g.S.Service.start g.S.Service.history)
          (word_after g.S.Service.machine g.S.Service.word) g.S.Service.WORDS
          (g.S.Service.start shared.key.service.value) (length shared.key.players.items) shared.table_id.slots
          c.exchange.new.seat.id c.exchange.new.seat.me g.S.Service.start g.S.Service.history c.args.service
          (ap (λ k. k.1) in_slot)
          (subst (λ v. IsReady (IsLegal g.S.Service.machine) g.S.Service.start g.S.Service.history c.args.service v)
          (sym (ap (λ k. k.0) in_slot)) c.requires.ready),
    )

pub exchange-requires-2 : goal.exchange-requires-2
exchange-requires-2 g c =
    let in_slot = back_in c.args.seat.now.me c.exchange.new.seat.me c.args.service c.requires.out c.exchange.ensures.3 in
    let told = c.load.ensures.2.now c.args.service (ap (λ k. k.1) in_slot) in (
      c.load.ensures.0 ∙ c.exchange.ensures.0 ∙ c.requires.table,
      (Some c.args.service, slot_again c.load.new.seat.me.1 c.args.service (ap (λ k. k.1) told ∙ ap (λ k. k.1) in_slot)),
    )
