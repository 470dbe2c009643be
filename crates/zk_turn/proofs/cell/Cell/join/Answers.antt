use Rattle.std.proofs.Common.{◌<◌, length, ap, ◌∙◌, arith}
use Rattle.zk_base.specs.Legal.{IsLegal}
use Rattle.zk_turn.specs.Words.{word_after}
use Rattle.zk_turn.specs.Steps.{Fits}
use Rattle.zk_turn.proofs.Keeping.{recalls}
use Rattle.zk_turn.proofs.Joining.{merges}
use Rattle.zk_turn.proofs.Passes.{joined_now}
use Rattle.zk_turn.proofs.cell.Cell.join.Goals as goal

pub join_seat-requires : goal.join_seat-requires
join_seat-requires g c =
    let shared = c.args.self.now.table.shared in
    let p = c.args.into.now in
    let q = c.args.other in
    let three = c.args.self.now.«shape».0 in
    let wide : 0 < shared.table_id.words = omega arith in
    let first = ap (λ l. length l) c.requires.into.first.1 in
    let some : 0 < length p.seat.me.0.players = omega arith in (
      c.requires.into.table,
      c.requires.other.table,
      c.requires.other.slots,
      wide,
      merges (IsLegal g.S.Service.machine) (Fits g.S.Service.start g.S.Service.history)
          (word_after g.S.Service.machine g.S.Service.word) g.S.Service.WORDS
          (g.S.Service.start shared.key.service.value) (length shared.key.players.items) p.seat.id q.seat.id p.seat.me.0
          q.seat.me.0
          c.requires.into.idle c.requires.other.idle some,
    )

pub load-into-requires : goal.load-into-requires
load-into-requires g c =
    let shared = c.args.self.now.table.shared in
    let seat = c.join_seat.new.seat in
    let three = c.args.self.now.«shape».0 in
    let wide : 0 < shared.table_id.words = omega arith in (
      c.join_seat.ensures.0 ∙ c.requires.into.table,
      wide,
      recalls (IsLegal g.S.Service.machine) (Fits g.S.Service.start g.S.Service.history)
          (word_after g.S.Service.machine g.S.Service.word) g.S.Service.WORDS
          (g.S.Service.start shared.key.service.value) (length shared.key.players.items) shared.table_id.slots seat.id seat.me,
    )

pub returns-clause-own : goal.returns-clause-own
returns-clause-own g c =
    joined_now (IsLegal g.S.Service.machine) g.S.Service.start c.args.self.now c.args.into.now c.args.other
    c.load-into.new.seat c.max-into.result c.requires.into c.requires.other
    (c.load-into.ensures.0 ∙ c.join_seat.ensures.0) (c.load-into.ensures.2.same ∙ c.join_seat.ensures.2) c.max-into.ensures
