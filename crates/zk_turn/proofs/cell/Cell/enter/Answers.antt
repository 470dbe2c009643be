use Rattle.std.proofs.Common.{◌<◌, Some, length, refl, sym, ap, subst, ◌∙◌, arith}
use Rattle.zk_base.specs.Legal.{IsLegal}
use Rattle.zk_turn.specs.Players.{GoesOn, own}
use Rattle.zk_turn.specs.Words.{word_after, KeepsOthers}
use Rattle.zk_turn.specs.Steps.{Fits}
use Rattle.zk_turn.specs.Passes.{given_to}
use Rattle.zk_turn.proofs.Players.{own-GoesOn}
use Rattle.zk_turn.proofs.Keeping.{draws}
use Rattle.zk_turn.proofs.Passes.{slot_taken, taken_out, in_turn-from, held_now}
use Rattle.zk_turn.proofs.cell.Cell.enter.Goals as goal

pub fetch_add-ticket-requires : goal.fetch_add-ticket-requires
fetch_add-ticket-requires g c =
    let shared = c.args.self.now.table.shared in
    let seat = c.args.pass.seat in
    let three = c.args.self.now.«shape».0 in
    let wide : 0 < shared.table_id.words = omega arith in
    let first = ap (λ l. length l) c.requires.own.first.1 in
    let some : 0 < length seat.me.0.players = omega arith in (
      c.requires.own.table,
      wide,
      draws (IsLegal g.S.Service.machine) (Fits g.S.Service.start g.S.Service.history)
          (word_after g.S.Service.machine g.S.Service.word) g.S.Service.WORDS
          (g.S.Service.start shared.key.service.value) (length shared.key.players.items) shared.table_id.slots seat.id seat.me
          c.requires.own.idle some,
    )

pub exchange-requires : goal.exchange-requires
exchange-requires g c =
    let took = c.await_turn.ensures.took.1 in (
      c.await_turn.ensures.table ∙ c.fetch_add-ticket.ensures.0 ∙ c.requires.own.table,
      (Some took.service, slot_taken c.fetch_add-ticket.new.seat.me c.await_turn.new.seat.me _ took.service took.now),
    )

pub returns-clause-own : goal.returns-clause-own
returns-clause-own g c =
    let ticket = c.await_turn.ensures.took.0 in
    let took = c.await_turn.ensures.took.1 in
    let drew = c.fetch_add-ticket.ensures.2 in
    let p = c.args.pass in
    let knows = in_turn-from p.seat.me.0 drew.ticket ticket took.history took.service p.seat.me
    c.fetch_add-ticket.new.seat.me c.await_turn.new.seat.me c.exchange.new.seat.me
    refl c.requires.own.slots drew.now took.now c.exchange.ensures.3 in
    let same = taken_out c.await_turn.new.seat.me.1 _ _ took.service c.in-Some.service c.exchange.result
    (slot_taken c.fetch_add-ticket.new.seat.me c.await_turn.new.seat.me _ took.service took.now) c.exchange.ensures.2
    c.in-Some.is in
    held_now (IsLegal g.S.Service.machine) g.S.Service.start g.S.Service.history
    (KeepsOthers g.S.Service.machine g.S.Service.start g.S.Service.history g.S.Service.word g.S.Service.WORDS g.S.Service.touched) c.args.self.now p c.exchange.new.seat
    took.service c.in-Some.service drew.ticket ticket took.history
    c.requires.own c.requires.room (c.exchange.ensures.0 ∙ c.await_turn.ensures.table ∙ c.fetch_add-ticket.ensures.0) knows
    (λ o is. took.fit o (ap (λ m. m.0.start) drew.now ∙ is)) took.short same

pub returns-clause-mine : goal.returns-clause-mine
returns-clause-mine g c =
    let took = c.await_turn.ensures.took.1 in
    let drew = c.fetch_add-ticket.ensures.2 in
    let p = c.args.pass in
    let same = taken_out c.await_turn.new.seat.me.1 _ _ took.service c.in-Some.service c.exchange.result
    (slot_taken c.fetch_add-ticket.new.seat.me c.await_turn.new.seat.me _ took.service took.now) c.exchange.ensures.2
    c.in-Some.is in
    let told = took.fit (g.S.Service.start (given_to c.args.self.now)) (ap (λ m. m.0.start) drew.now ∙ c.requires.own.start) in
    let history_is = ap g.S.Service.history (sym same) ∙ told.0.history in
    let goes = subst (λ m. GoesOn m.0.players m.0.seen took.history) drew.now took.goes_on in
    ap (own p.seat.me.0.players) history_is ∙ own-GoesOn p.seat.me.0.players p.seat.me.0.seen took.history goes
