use Rattle.std.proofs.Common.{◌≡◌, ◌<◌, ◌+◌, ◌∷◌, length, refl, sym, ap, subst, ◌∙◌, arith}
use Rattle.zk_base.specs.Legal.{IsLegal}
use Rattle.zk_turn.specs.Views.{with_stamped}
use Rattle.zk_turn.specs.Steps.{Fits}
use Rattle.zk_turn.specs.Words.{word_after, before_of}
use Rattle.zk_turn.proofs.Players.{has-some}
use Rattle.zk_turn.proofs.Counting.{weighs, stamps}
use Rattle.zk_turn.proofs.Keeping.{same_start}
use Rattle.zk_turn.proofs.Glances.{change_still}
use Rattle.zk_turn.proofs.cell.Cell.stamp.Goals as goal

pub load-found-requires : goal.load-found-requires
load-found-requires g c =
    let shared = c.args.self.now.table.shared in
    let shape = c.args.self.now.«shape».0 in
    let words = c.requires.words in
    let below = c.requires.index in
    let change = c.requires.change in
    let wide : 3 + c.args.index < shared.table_id.words = omega arith in (
      c.requires.table,
      wide,
      weighs (IsLegal g.S.Service.machine) (Fits g.S.Service.start g.S.Service.history)
          (word_after g.S.Service.machine g.S.Service.word) g.S.Service.WORDS
          (g.S.Service.start shared.key.service.value) (length shared.key.players.items) shared.table_id.slots
          c.args.seat.now.id c.args.seat.now.me c.args.index change.ticket change.holds
          (has-some c.args.seat.now.me.0.players change.entry.who.number change.mine) below,
    )

pub store-requires : goal.store-requires
store-requires g c =
    let shared = c.args.self.now.table.shared in
    let shape = c.args.self.now.«shape».0 in
    let words = c.requires.words in
    let below = c.requires.index in
    let change = c.requires.change in
    let wide : 3 + c.args.index < shared.table_id.words = omega arith in
    let weighed = c.load-found.ensures.2 c.args.index change.start refl change.begins in
    let other = weighed.other (λ is. c.if-after-before.true (change.value ∙ is ∙ sym c.value_after-before.ensures.value)) in
    let same = other.0 in
    let word = word_after g.S.Service.machine g.S.Service.word in
    let still = change_still word c.args.index c.args.after c.args.position c.args.seat.now.me.0 c.load-found.new.seat.me.0
    (ap (λ m. m.0) same) change in (
      c.load-found.ensures.0 ∙ c.requires.table,
      wide,
      stamps (IsLegal g.S.Service.machine) (Fits g.S.Service.start g.S.Service.history)
          (word_after g.S.Service.machine g.S.Service.word) g.S.Service.WORDS
          (g.S.Service.start shared.key.service.value) (length shared.key.players.items) shared.table_id.slots
          c.load-found.new.seat.id c.load-found.new.seat.me c.args.index c.args.after c.args.position
          c.pack-word.result still
          (has-some c.load-found.new.seat.me.0.players still.entry.who.number still.mine) below
          c.pack-word.ensures.position c.pack-word.ensures.after
          (λ o begins. let start_is = same_start c.args.seat.now.me.0.start change.start o change.begins
          (sym (ap (λ m. m.0.start) same) ∙ begins) in
          subst (λ t. word t c.load-found.new.seat.me.0.seen c.args.index ≡ before_of c.pack-word.result) start_is
          (ap (λ m. word change.start m.0.seen c.args.index) same ∙ other.1 ∙ sym c.value_after-before.ensures.value
          ∙ sym c.pack-word.ensures.before)),
    )

pub returns-then-after-before-clause-stamped : goal.returns-then-after-before-clause-stamped
returns-then-after-before-clause-stamped g c =
    let change = c.requires.change in
    let weighed = c.load-found.ensures.2 c.args.index change.start refl change.begins in
    let other = weighed.other (λ is. c.if-after-before.true (change.value ∙ is ∙ sym c.value_after-before.ensures.value)) in
    c.store.ensures.2 c.args.index refl
    ∙ ap (λ m. (with_stamped m.0 (c.args.index ∷ m.0.flight.stamped), m.1)) other.0

pub returns-else-after-before-clause-stamped : goal.returns-else-after-before-clause-stamped
returns-else-after-before-clause-stamped g c =
    let change = c.requires.change in
    let weighed = c.load-found.ensures.2 c.args.index change.start refl change.begins in
    weighed.ready (sym change.value ∙ c.if-after-before.false ∙ c.value_after-before.ensures.value)
