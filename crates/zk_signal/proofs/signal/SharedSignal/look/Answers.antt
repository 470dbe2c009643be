use Rattle.std.proofs.Common.{◌<◌, length, refl, arith}
use Rattle.zk_signal.proofs.Keeping.{looks}
use Rattle.zk_signal.proofs.Passes.{has_looked}
use Rattle.zk_signal.proofs.signal.SharedSignal.look.Goals as goal

pub load-word-requires : goal.load-word-requires
load-word-requires c =
    let shared = c.args.self.now.table.shared in
    let seat = c.args.pass.now.seat in
    let two = c.args.self.now.«shape».0 in
    let wide : 0 < shared.table_id.words = omega arith in
    (c.requires.own.table, wide, looks (length shared.key.players.items) shared.table_id.slots seat.id seat.me)

pub returns-clause-looked : goal.returns-clause-looked
returns-clause-looked c =
    let told = c.load-word.ensures.2 in
    has_looked c.args.pass.now record { seat = c.load-word.new.seat; room = c.args.pass.now.room } c.load-word.result
    c.seen_in.result told.now c.seen_in.ensures told.not_older refl
