use Rattle.std.proofs.Common.{length, ◌∙◌, arith}
use Rattle.std.specs.Slots.{slots_items}
use Rattle.std.proofs.lemmas.List.{length-map}
use Rattle.zk_signal.specs.Words.{seen_in}
use Rattle.zk_signal.proofs.Ending.{closes, all_stamps, all_values}
use Rattle.zk_signal.proofs.signal.SharedSignal.close.Goals as goal

pub overflow_cast-result : goal.overflow_cast-result
overflow_cast-result c =
    let seat = c.args.pass.seat in
    let closed = c.close_with-closed in
    let end = closes (length c.args.self.table.shared.key.players.items) seat.id seat.me.0 (slots_items closed.result.words)
    (slots_items closed.result.slots) c.word-count.result c.requires.own.idle c.requires.all closed.ensures.values.2 c.word-count.ensures in
    let few = end.few in
    omega arith

pub returns-clause-stamps : goal.returns-clause-stamps
returns-clause-stamps c =
    let seat = c.args.pass.seat in
    let closed = c.close_with-closed in
    all_stamps seat.me.0 c.word-count.result
    (closes (length c.args.self.table.shared.key.players.items) seat.id seat.me.0 (slots_items closed.result.words)
    (slots_items closed.result.slots) c.word-count.result c.requires.own.idle c.requires.all closed.ensures.values.2 c.word-count.ensures)

pub returns-clause-count : goal.returns-clause-count
returns-clause-count c =
    let seat = c.args.pass.seat in
    let closed = c.close_with-closed in
    length-map seat.me.0.writes seen_in
    ∙ (closes (length c.args.self.table.shared.key.players.items) seat.id seat.me.0 (slots_items closed.result.words)
    (slots_items closed.result.slots) c.word-count.result c.requires.own.idle c.requires.all closed.ensures.values.2 c.word-count.ensures).drawn

pub returns-clause-looks : goal.returns-clause-looks
returns-clause-looks c =
    let seat = c.args.pass.seat in
    let closed = c.close_with-closed in
    all_values seat.me.0 c.word-count.result
    (closes (length c.args.self.table.shared.key.players.items) seat.id seat.me.0 (slots_items closed.result.words)
    (slots_items closed.result.slots) c.word-count.result c.requires.own.idle c.requires.all closed.ensures.values.2 c.word-count.ensures)
