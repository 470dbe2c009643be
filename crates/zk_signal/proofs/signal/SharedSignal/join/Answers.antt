use Rattle.std.proofs.Common.{ℕ, ◌<◌, length, ap, ◌∙◌, arith}
use Rattle.atomic_table.specs.Table.{Me}
use Rattle.zk_signal.specs.declared.views.View.{View}
use Rattle.zk_signal.specs.Views.{top_of}
use Rattle.zk_signal.proofs.Joining.{merges}
use Rattle.zk_signal.proofs.Wording.{top-joined}
use Rattle.zk_signal.proofs.signal.SharedSignal.join.Goals as goal

pub join_seat-requires : goal.join_seat-requires
join_seat-requires c =
    let shared = c.args.self.now.table.shared in
    let p = c.args.into.now in
    let q = c.args.other in
    let two = c.args.self.now.«shape».0 in
    let wide : 0 < shared.table_id.words = omega arith in (
      c.requires.into.table,
      c.requires.other.table,
      c.requires.other.slots,
      wide,
      merges (length shared.key.players.items) p.seat.id q.seat.id p.seat.me.0 q.seat.me.0,
    )

pub returns-clause-top : goal.returns-clause-top
returns-clause-top c =
    ap (λ (m : Me ℕ View). top_of m.0) c.join_seat.ensures.2 ∙ top-joined c.args.into.now.seat.me.0 c.args.other.seat.me.0
