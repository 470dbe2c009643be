use Rattle.std.proofs.Common.{◌<◌, ℕ, length, sym, ap, subst, ◌∙◌, arith}
use mathlib.Core.Option.{none}
use Rattle.atomic_table.specs.Table.{Allows, step}
use Rattle.zk_base.specs.Legal.{IsLegal}
use Rattle.zk_base.proofs.Histories.{IsLegal-front}
use Rattle.zk_turn.specs.Players.{GoesOn}
use Rattle.zk_turn.specs.Players as players
use Rattle.zk_turn.specs.Steps.{Fits, LoadsWord}
use Rattle.zk_turn.specs.Turn.{Turn}
use Rattle.zk_turn.specs.Words.{word_after}
use Rattle.zk_turn.proofs.Players.{own-GoesOn}
use Rattle.zk_turn.proofs.Looking.{loads_word, loads_count}
use Rattle.zk_turn.proofs.Glances.{has_looked, look_says, looked_now}
use Rattle.zk_turn.proofs.cell.Cell.look.Goals as goal

pub load-found-requires : goal.load-found-requires
load-found-requires g c =
    let shared = c.args.self.now.table.shared in
    let seat = c.place_of-place.new.seat in
    let holds = Turn (IsLegal g.S.Service.machine) (Fits g.S.Service.start g.S.Service.history)
    (word_after g.S.Service.machine g.S.Service.word) g.S.Service.WORDS
    (g.S.Service.start shared.key.service.value) (length shared.key.players.items) in (
      c.place_of-place.ensures.table ∙ c.requires.own.table,
      c.place_of-place.ensures.within,
      subst (λ (n : ℕ). Allows holds shared.table_id.slots seat.id seat.me n (λ k. k)
          (LoadsWord (step shared.table_id.slots n 0 0 none) seat.me)) (sym c.place_of-place.ensures.place)
          (loads_word (IsLegal g.S.Service.machine) (Fits g.S.Service.start g.S.Service.history)
          (word_after g.S.Service.machine g.S.Service.word) g.S.Service.WORDS
          (g.S.Service.start shared.key.service.value) (length shared.key.players.items) shared.table_id.slots
          seat.id seat.me c.args.index c.requires.index),
    )

pub load-count-requires : goal.load-count-requires
load-count-requires g c =
    let shared = c.args.self.now.table.shared in
    let shape = c.args.self.now.«shape».0 in
    let wide : 2 < shared.table_id.words = omega arith in
    let own = c.requires.own in
    let seat = c.load-found.new.seat in
    let loaded = c.load-found.ensures.2 c.args.index c.place_of-place.ensures.place in
    let same = c.place_of-place.ensures.same in
    let first = ap (λ l. length l) own.first.1 in
    let some : 0 < length c.args.pass.now.seat.me.0.players = omega arith in (
      c.load-found.ensures.0 ∙ c.place_of-place.ensures.table ∙ own.table,
      wide,
      loads_count (IsLegal g.S.Service.machine) (Fits g.S.Service.start g.S.Service.history)
          (word_after g.S.Service.machine g.S.Service.word) g.S.Service.WORDS
          (g.S.Service.start shared.key.service.value) (length shared.key.players.items) shared.table_id.slots
          seat.id seat.me record { index = c.args.index; word = c.load-found.result }
          (ap (λ m. m.0.stage) loaded ∙ ap (λ m. m.0.stage) same ∙ own.idle)
          (subst (λ ws. 0 < length ws) (sym (ap (λ m. m.0.players) loaded ∙ ap (λ m. m.0.players) same)) some)
          (ap (λ m. m.0.note) loaded)
          (IsLegal-front g.S.Service.machine),
    )

pub returns-clause-own : goal.returns-clause-own
returns-clause-own g c =
    let own = c.requires.own in
    let legal = IsLegal g.S.Service.machine in
    let word = word_after g.S.Service.machine g.S.Service.word in
    let start = g.S.Service.start c.args.self.now.table.shared.key.service.value in
    let seat = c.args.pass.now.seat in
    let has = has_looked legal word start c.args.index c.load-found.result c.load-count.result
    (step c.args.self.now.table.shared.table_id.slots 2 0 0 none) seat.me c.place_of-place.new.seat.me
    c.load-found.new.seat.me c.load-count.new.seat.me c.place_of-place.ensures.same
    (c.load-found.ensures.2 c.args.index c.place_of-place.ensures.place) c.load-count.ensures.2 own.start in
    let says = look_says legal word start c.args.index c.load-found.result c.load-count.result c.args.pass.now.front
    c.look_at-look.result.word c.look_at-look.result.at seat.me c.load-count.new.seat.me has own.front
    c.look_at-look.ensures.settled c.look_at-look.ensures.flying in
    looked_now legal g.S.Service.start c.args.self.now c.args.pass.now c.load-count.new.seat has.history
    c.look_at-look.result.at own c.requires.room
    (c.load-count.ensures.0 ∙ c.load-found.ensures.0 ∙ c.place_of-place.ensures.table) has.now has.lawful says.0

pub returns-clause-players : goal.returns-clause-players
returns-clause-players g c =
    let own = c.requires.own in
    let legal = IsLegal g.S.Service.machine in
    let word = word_after g.S.Service.machine g.S.Service.word in
    let start = g.S.Service.start c.args.self.now.table.shared.key.service.value in
    let seat = c.args.pass.now.seat in
    let has = has_looked legal word start c.args.index c.load-found.result c.load-count.result
    (step c.args.self.now.table.shared.table_id.slots 2 0 0 none) seat.me c.place_of-place.new.seat.me
    c.load-found.new.seat.me c.load-count.new.seat.me c.place_of-place.ensures.same
    (c.load-found.ensures.2 c.args.index c.place_of-place.ensures.place) c.load-count.ensures.2 own.start in
    ap (λ m. m.0.players) has.now

pub returns-clause-holds : goal.returns-clause-holds
returns-clause-holds g c =
    let own = c.requires.own in
    let legal = IsLegal g.S.Service.machine in
    let word = word_after g.S.Service.machine g.S.Service.word in
    let start = g.S.Service.start c.args.self.now.table.shared.key.service.value in
    let seat = c.args.pass.now.seat in
    let has = has_looked legal word start c.args.index c.load-found.result c.load-count.result
    (step c.args.self.now.table.shared.table_id.slots 2 0 0 none) seat.me c.place_of-place.new.seat.me
    c.load-found.new.seat.me c.load-count.new.seat.me c.place_of-place.ensures.same
    (c.load-found.ensures.2 c.args.index c.place_of-place.ensures.place) c.load-count.ensures.2 own.start in
    ap (λ m. m.0.holds) has.now

pub returns-clause-seen : goal.returns-clause-seen
returns-clause-seen g c =
    let own = c.requires.own in
    let legal = IsLegal g.S.Service.machine in
    let word = word_after g.S.Service.machine g.S.Service.word in
    let start = g.S.Service.start c.args.self.now.table.shared.key.service.value in
    let seat = c.args.pass.now.seat in
    let has = has_looked legal word start c.args.index c.load-found.result c.load-count.result
    (step c.args.self.now.table.shared.table_id.slots 2 0 0 none) seat.me c.place_of-place.new.seat.me
    c.load-found.new.seat.me c.load-count.new.seat.me c.place_of-place.ensures.same
    (c.load-found.ensures.2 c.args.index c.place_of-place.ensures.place) c.load-count.ensures.2 own.start in
    let seen = ap (λ m. m.0.seen) has.now in
    subst (λ h. GoesOn seat.me.0.players seat.me.0.seen h) (sym seen) has.goes_on

pub returns-clause-mine : goal.returns-clause-mine
returns-clause-mine g c =
    let own = c.requires.own in
    let legal = IsLegal g.S.Service.machine in
    let word = word_after g.S.Service.machine g.S.Service.word in
    let start = g.S.Service.start c.args.self.now.table.shared.key.service.value in
    let seat = c.args.pass.now.seat in
    let has = has_looked legal word start c.args.index c.load-found.result c.load-count.result
    (step c.args.self.now.table.shared.table_id.slots 2 0 0 none) seat.me c.place_of-place.new.seat.me
    c.load-found.new.seat.me c.load-count.new.seat.me c.place_of-place.ensures.same
    (c.load-found.ensures.2 c.args.index c.place_of-place.ensures.place) c.load-count.ensures.2 own.start in
    ap (λ m. players.own m.0.players m.0.seen) has.now ∙ own-GoesOn seat.me.0.players seat.me.0.seen has.history has.goes_on

pub returns-clause-at : goal.returns-clause-at
returns-clause-at g c =
    let own = c.requires.own in
    let legal = IsLegal g.S.Service.machine in
    let word = word_after g.S.Service.machine g.S.Service.word in
    let start = g.S.Service.start c.args.self.now.table.shared.key.service.value in
    let seat = c.args.pass.now.seat in
    let has = has_looked legal word start c.args.index c.load-found.result c.load-count.result
    (step c.args.self.now.table.shared.table_id.slots 2 0 0 none) seat.me c.place_of-place.new.seat.me
    c.load-found.new.seat.me c.load-count.new.seat.me c.place_of-place.ensures.same
    (c.load-found.ensures.2 c.args.index c.place_of-place.ensures.place) c.load-count.ensures.2 own.start in
    let says = look_says legal word start c.args.index c.load-found.result c.load-count.result c.args.pass.now.front
    c.look_at-look.result.word c.look_at-look.result.at seat.me c.load-count.new.seat.me has own.front
    c.look_at-look.ensures.settled c.look_at-look.ensures.flying in
    let seen = ap (λ m. m.0.seen) has.now in
    says.0 ∙ ap (λ l. length l) (sym seen)

pub returns-clause-legal : goal.returns-clause-legal
returns-clause-legal g c =
    let own = c.requires.own in
    let legal = IsLegal g.S.Service.machine in
    let word = word_after g.S.Service.machine g.S.Service.word in
    let start = g.S.Service.start c.args.self.now.table.shared.key.service.value in
    let seat = c.args.pass.now.seat in
    let has = has_looked legal word start c.args.index c.load-found.result c.load-count.result
    (step c.args.self.now.table.shared.table_id.slots 2 0 0 none) seat.me c.place_of-place.new.seat.me
    c.load-found.new.seat.me c.load-count.new.seat.me c.place_of-place.ensures.same
    (c.load-found.ensures.2 c.args.index c.place_of-place.ensures.place) c.load-count.ensures.2 own.start in
    let seen = ap (λ m. m.0.seen) has.now in
    subst (λ h. legal start h) (sym seen) has.lawful

pub returns-clause-word : goal.returns-clause-word
returns-clause-word g c =
    let own = c.requires.own in
    let legal = IsLegal g.S.Service.machine in
    let word = word_after g.S.Service.machine g.S.Service.word in
    let start = g.S.Service.start c.args.self.now.table.shared.key.service.value in
    let seat = c.args.pass.now.seat in
    let has = has_looked legal word start c.args.index c.load-found.result c.load-count.result
    (step c.args.self.now.table.shared.table_id.slots 2 0 0 none) seat.me c.place_of-place.new.seat.me
    c.load-found.new.seat.me c.load-count.new.seat.me c.place_of-place.ensures.same
    (c.load-found.ensures.2 c.args.index c.place_of-place.ensures.place) c.load-count.ensures.2 own.start in
    let says = look_says legal word start c.args.index c.load-found.result c.load-count.result c.args.pass.now.front
    c.look_at-look.result.word c.look_at-look.result.at seat.me c.load-count.new.seat.me has own.front
    c.look_at-look.ensures.settled c.look_at-look.ensures.flying in
    let seen = ap (λ m. m.0.seen) has.now in
    says.1 ∙ ap (λ h. word start h c.args.index) (sym seen)
