use Rattle.std.proofs.Common.{◌≡◌, ◌<◌, ◌%◌, ◌^◌, length, sym, ap, subst, ◌∙◌, arith}
use Rattle.zk_base.specs.Legal.{IsLegal}
use Rattle.zk_turn.specs.Words.{word_after}
use Rattle.zk_turn.specs.Steps.{Took, Fits}
use Rattle.zk_turn.proofs.Keeping.{awaits}
use Rattle.zk_turn.proofs.cell.Cell.await_turn.Goals as goal

pub load-served-requires : goal.load-served-requires
load-served-requires g c =
    let shared = c.args.self.now.table.shared in
    let three = c.args.self.now.«shape».0 in
    let wide : 1 < shared.table_id.words = omega arith in (
      c.loop.invariant.2 ∙ c.requires.table,
      wide,
      awaits (IsLegal g.S.Service.machine) (Fits g.S.Service.start g.S.Service.history)
          (word_after g.S.Service.machine g.S.Service.word) g.S.Service.WORDS
          (g.S.Service.start shared.key.service.value) (length shared.key.players.items) shared.table_id.slots
          c.loop.seat.id c.loop.seat.me c.requires.waits.0 (ap (λ m. m.0.stage) c.loop.invariant.3 ∙ c.requires.waits.1),
    )

pub returns-then-served-ticket-clause-took : goal.returns-then-served-ticket-clause-took
returns-then-served-ticket-clause-took g c =
    let t = c.requires.waits.0 in
    let came = c.load-served.ensures.2 t (ap (λ m. m.0.stage) c.loop.invariant.3 ∙ c.requires.waits.1) in (
      t,
      subst (λ m. Took (IsLegal g.S.Service.machine) (Fits g.S.Service.start g.S.Service.history) t m
          c.load-served.new.seat.me) c.loop.invariant.3
          (came.served (c.if-served-ticket.true ∙ c.requires.waits.2)),
    )

pub loop-preserved-then-looks-lt-LOOKS : goal.loop-preserved-then-looks-lt-LOOKS
loop-preserved-then-looks-lt-LOOKS g c =
    let came = c.load-served.ensures.2 c.requires.waits.0 (ap (λ m. m.0.stage) c.loop.invariant.3 ∙ c.requires.waits.1) in
    let other : ¬ (c.load-served.result ≡ c.requires.waits.0 % 2 ^ 64) =
    λ same. c.if-served-ticket.false (same ∙ sym c.requires.waits.2) in
    (tt, tt, c.load-served.ensures.0 ∙ c.loop.invariant.2, came.not_yet other ∙ c.loop.invariant.3)

pub loop-preserved : goal.loop-preserved
loop-preserved g c =
    let came = c.load-served.ensures.2 c.requires.waits.0 (ap (λ m. m.0.stage) c.loop.invariant.3 ∙ c.requires.waits.1) in
    let other : ¬ (c.load-served.result ≡ c.requires.waits.0 % 2 ^ 64) =
    λ same. c.if-served-ticket.false (same ∙ sym c.requires.waits.2) in
    (tt, tt, c.load-served.ensures.0 ∙ c.loop.invariant.2, came.not_yet other ∙ c.loop.invariant.3)
