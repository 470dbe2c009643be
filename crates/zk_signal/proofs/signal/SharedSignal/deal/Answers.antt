use Rattle.std.proofs.Common.{◌<◌, length, sym, ap, subst, arith}
use Rattle.atomic_table.specs.Table.{Splits}
use Rattle.zk_signal.specs.Rule.{SignalStands}
use Rattle.zk_signal.specs.Views.{dealt_from, dealt}
use Rattle.zk_signal.proofs.Dealing.{deals}
use Rattle.zk_signal.proofs.signal.SharedSignal.deal.Goals as goal

pub split_seat-dealt-requires : goal.split_seat-dealt-requires
split_seat-dealt-requires c =
    let shared = c.args.self.now.table.shared in
    let first = c.requires.first in
    let two = c.args.self.now.«shape».0 in
    let wide : 0 < shared.table_id.words = omega arith in
    let count = length shared.key.players.items in (
      c.requires.table,
      wide,
      subst (λ v. Splits (SignalStands count) c.args.seat.now.id v (dealt_from v) (dealt v)) (sym (ap (λ m. m.0) first.1))
          (deals count c.args.seat.now.id c.args.player first.0),
    )
