use Rattle.std.proofs.Common.{length}
use Rattle.std.specs.Slots.{slots_items}
use Rattle.zk_base.specs.Legal.{IsLegal}
use Rattle.zk_turn.specs.Steps.{Fits}
use Rattle.zk_turn.specs.Words.{word_after}
use Rattle.zk_turn.proofs.Ending.{comes_back, service_ends}
use Rattle.zk_turn.proofs.cell.Cell.close.Goals as goal

pub unreachable-requires : goal.unreachable-requires
unreachable-requires g c =
    let key = c.args.self.table.shared.key in
    let seat = c.args.pass.seat in
    let back = comes_back (IsLegal g.S.Service.machine) (Fits g.S.Service.start g.S.Service.history)
    (word_after g.S.Service.machine g.S.Service.word) g.S.Service.WORDS
    (g.S.Service.start key.service.value) (length key.players.items) seat.id seat.me.0
    (slots_items c.close_with-closed.result.words) (slots_items c.close_with-closed.result.slots) c.take.result
    c.requires.own.idle c.requires.all c.close_with-closed.ensures.values.2 c.take.ensures.value in
    c.in_default.not-Some back.service back.there

pub returns-clause-history : goal.returns-clause-history
returns-clause-history g c =
    let key = c.args.self.table.shared.key in
    let seat = c.args.pass.seat in
    let closed = c.close_with-closed in
    (service_ends (IsLegal g.S.Service.machine) g.S.Service.start g.S.Service.history
    (word_after g.S.Service.machine g.S.Service.word) g.S.Service.WORDS (g.S.Service.start key.service.value) (length key.players.items) seat.id seat.me.0
    (slots_items closed.result.words) (slots_items closed.result.slots) c.take.result c.in-Some.service
    c.requires.own.idle c.requires.all closed.ensures.values.2 c.take.ensures.value c.in-Some.is).is_seen

pub returns-clause-mine : goal.returns-clause-mine
returns-clause-mine g c =
    let key = c.args.self.table.shared.key in
    let seat = c.args.pass.seat in
    (comes_back (IsLegal g.S.Service.machine) (Fits g.S.Service.start g.S.Service.history)
    (word_after g.S.Service.machine g.S.Service.word) g.S.Service.WORDS
    (g.S.Service.start key.service.value) (length key.players.items) seat.id seat.me.0
    (slots_items c.close_with-closed.result.words) (slots_items c.close_with-closed.result.slots) c.take.result
    c.requires.own.idle c.requires.all c.close_with-closed.ensures.values.2 c.take.ensures.value).mine

pub returns-clause-start : goal.returns-clause-start
returns-clause-start g c =
    let key = c.args.self.table.shared.key in
    let seat = c.args.pass.seat in
    let closed = c.close_with-closed in
    (service_ends (IsLegal g.S.Service.machine) g.S.Service.start g.S.Service.history
    (word_after g.S.Service.machine g.S.Service.word) g.S.Service.WORDS (g.S.Service.start key.service.value) (length key.players.items) seat.id seat.me.0
    (slots_items closed.result.words) (slots_items closed.result.slots) c.take.result c.in-Some.service
    c.requires.own.idle c.requires.all closed.ensures.values.2 c.take.ensures.value c.in-Some.is).is_start

pub returns-clause-legal : goal.returns-clause-legal
returns-clause-legal g c =
    let key = c.args.self.table.shared.key in
    let seat = c.args.pass.seat in
    let closed = c.close_with-closed in
    (service_ends (IsLegal g.S.Service.machine) g.S.Service.start g.S.Service.history
    (word_after g.S.Service.machine g.S.Service.word) g.S.Service.WORDS (g.S.Service.start key.service.value) (length key.players.items) seat.id seat.me.0
    (slots_items closed.result.words) (slots_items closed.result.slots) c.take.result c.in-Some.service
    c.requires.own.idle c.requires.all closed.ensures.values.2 c.take.ensures.value c.in-Some.is).lawful

pub returns-clause-short : goal.returns-clause-short
returns-clause-short g c =
    let key = c.args.self.table.shared.key in
    let seat = c.args.pass.seat in
    let closed = c.close_with-closed in
    (service_ends (IsLegal g.S.Service.machine) g.S.Service.start g.S.Service.history
    (word_after g.S.Service.machine g.S.Service.word) g.S.Service.WORDS (g.S.Service.start key.service.value) (length key.players.items) seat.id seat.me.0
    (slots_items closed.result.words) (slots_items closed.result.slots) c.take.result c.in-Some.service
    c.requires.own.idle c.requires.all closed.ensures.values.2 c.take.ensures.value c.in-Some.is).short
