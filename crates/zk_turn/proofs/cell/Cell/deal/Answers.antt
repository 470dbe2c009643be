use Rattle.std.proofs.Common.{◌<◌, length, sym, ap, subst, arith}
use Rattle.atomic_table.specs.Table.{Splits}
use Rattle.zk_base.specs.Legal.{IsLegal}
use Rattle.zk_base.proofs.Histories.{IsLegal-nil}
use Rattle.zk_turn.specs.Words.{word_after}
use Rattle.zk_turn.specs.Steps.{Fits}
use Rattle.zk_turn.specs.Turn.{Turn}
use Rattle.zk_turn.specs.Views.{dealt_from, dealt}
use Rattle.zk_turn.specs.Passes.{given_to}
use Rattle.zk_turn.proofs.Dealing.{deals, dealt_pass}
use Rattle.zk_turn.proofs.cell.Cell.deal.Goals as goal

pub split_seat-dealt-requires : goal.split_seat-dealt-requires
split_seat-dealt-requires g c =
    let shared = c.args.self.now.table.shared in
    let first = c.requires.first in
    let three = c.args.self.now.«shape».0 in
    let wide : 0 < shared.table_id.words = omega arith in
    let legal = IsLegal g.S.Service.machine in
    let fits = Fits g.S.Service.start g.S.Service.history in
    let word = word_after g.S.Service.machine g.S.Service.word in
    let words = g.S.Service.WORDS in
    let origin = g.S.Service.start shared.key.service.value in
    let count = length shared.key.players.items in (
      c.requires.table,
      wide,
      subst (λ v. Splits (Turn legal fits word words origin count) c.args.seat.now.id v (dealt_from v) (dealt v))
          (sym (ap (λ m. m.0) first.1))
          (deals legal fits word words origin count c.args.seat.now.id origin words c.args.who first.0 first.2),
    )

pub returns-clause-pass : goal.returns-clause-pass
returns-clause-pass g c =
    let origin = g.S.Service.start (given_to c.args.self.now) in
    let first = c.requires.first in
    dealt_pass (IsLegal g.S.Service.machine) g.S.Service.start c.args.self.now g.S.Service.WORDS c.args.who first.0
    c.split_seat-dealt.result (IsLegal-nil g.S.Service.machine origin) c.requires.words
    (rw c.requires.table at c.split_seat-dealt.ensures.3) (rw first.1 at c.split_seat-dealt.ensures.4)
