use Rattle.std.proofs.Common.{◌<◌, length, arith}
use Rattle.zk_base.specs.Legal.{IsLegal}
use Rattle.zk_turn.specs.Words.{word_after}
use Rattle.zk_turn.specs.Steps.{Fits}
use Rattle.zk_turn.proofs.Keeping.{passes_on}
use Rattle.zk_turn.proofs.cell.Cell.pass_on.Goals as goal

pub fetch_add-requires : goal.fetch_add-requires
fetch_add-requires g c =
    let shared = c.args.self.now.table.shared in
    let three = c.args.self.now.«shape».0 in
    let wide : 1 < shared.table_id.words = omega arith in (
      c.requires.table,
      wide,
      passes_on (IsLegal g.S.Service.machine) (Fits g.S.Service.start g.S.Service.history)
          (word_after g.S.Service.machine g.S.Service.word) g.S.Service.WORDS
          (g.S.Service.start shared.key.service.value) (length shared.key.players.items) shared.table_id.slots
          c.args.seat.now.id c.args.seat.now.me c.requires.ready,
    )
