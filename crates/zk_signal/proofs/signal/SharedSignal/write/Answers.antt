use Rattle.std.proofs.Common.{◌≡◌, ℕ, ◌+◌, ◌-◌, ◌<◌, [], ◌∷◌, length, sym, ap, subst, ◌∙◌, arith}
use Rattle.atomic_table.specs.Table.{Me}
use Rattle.zk_signal.specs.declared.views.View.{View}
use Rattle.zk_signal.specs.Views.{settled}
use Rattle.zk_signal.specs.Words.{stamp_in, stamp_of, seen_in, IsTidy, written}
use Rattle.zk_signal.proofs.Keeping.{draws, settles}
use Rattle.zk_signal.proofs.Passes.{has_written, rises_on}
use Rattle.zk_signal.proofs.Wording.{seen_in-word, tidy-word}
use Rattle.zk_signal.proofs.signal.SharedSignal.write.Goals as goal

pub fetch_add-drawn-requires : goal.fetch_add-drawn-requires
fetch_add-drawn-requires c =
    let shared = c.args.self.now.table.shared in
    let seat = c.args.pass.now.seat in
    let two = c.args.self.now.«shape».0 in
    let wide : 1 < shared.table_id.words = omega arith in
    let own = c.requires.own in
    let room = own.room in
    let some_room = c.requires.room in
    (own.table, wide, draws (length shared.key.players.items) shared.table_id.slots seat.id seat.me own.idle (omega arith))

pub fetch_max-requires : goal.fetch_max-requires
fetch_max-requires c =
    let shared = c.args.self.now.table.shared in
    let seat = c.fetch_add-drawn.new.seat in
    let drew = c.fetch_add-drawn.ensures in
    let two = c.args.self.now.«shape».0 in
    let wide : 0 < shared.table_id.words = omega arith in
    let fits = c.ranges.value.fits in
    let small : c.args.value < 65536 = omega arith in
    let stamp : ℕ = c.fetch_add-drawn.result + 1 in
    let word : ℕ = c.word_of-word.result in
    let is = c.word_of-word.ensures in
    let at_stamp : stamp_in word ≡ stamp = ap stamp_in is ∙ ap stamp_of (seen_in-word c.args.raised c.args.value stamp small) in
    let tidy : IsTidy (seen_in word) =
    subst (λ (n : ℕ). IsTidy (seen_in n)) (sym is) (tidy-word c.args.raised c.args.value stamp small c.requires.tidy) in (
      drew.0 ∙ c.requires.own.table,
      wide,
      settles (length shared.key.players.items) shared.table_id.slots seat.id seat.me word
          (ap (λ (m : Me ℕ View). m.0.drawn) drew.2.now ∙ ap (λ (n : ℕ). n ∷ []) (sym at_stamp)) tidy,
    )

pub returns-clause-wrote : goal.returns-clause-wrote
returns-clause-wrote c =
    let fits = c.ranges.value.fits in
    let small : c.args.value < 65536 = omega arith in
    let stamp : ℕ = c.fetch_add-drawn.result + 1 in
    let word : ℕ = c.word_of-word.result in
    let drew = c.fetch_add-drawn.ensures.2 in
    let above = drew.above in
    let some_room = c.requires.room in
    has_written c.args.pass.now record { seat = c.fetch_max.new.seat; room = c.args.pass.now.room - 1 } stamp word
    (written c.args.raised c.args.value stamp)
    (c.fetch_max.ensures.2 ∙ ap (λ (m : Me ℕ View). (settled m.0 word, m.1)) drew.now)
    (ap seen_in c.word_of-word.ensures ∙ seen_in-word c.args.raised c.args.value stamp small) (omega arith) (omega arith)

pub returns-clause-rise : goal.returns-clause-rise
returns-clause-rise c up =
    let fits = c.ranges.value.fits in
    let small : c.args.value < 65536 = omega arith in
    let stamp : ℕ = c.fetch_add-drawn.result + 1 in
    let word : ℕ = c.word_of-word.result in
    let drew = c.fetch_add-drawn.ensures.2 in
    let above = drew.above in
    let some_room = c.requires.room in
    rises_on c.args.pass.now record { seat = c.fetch_max.new.seat; room = c.args.pass.now.room - 1 }
    (written c.args.raised c.args.value stamp)
    (has_written c.args.pass.now record { seat = c.fetch_max.new.seat; room = c.args.pass.now.room - 1 } stamp word
    (written c.args.raised c.args.value stamp)
    (c.fetch_max.ensures.2 ∙ ap (λ (m : Me ℕ View). (settled m.0 word, m.1)) drew.now)
    (ap seen_in c.word_of-word.ensures ∙ seen_in-word c.args.raised c.args.value stamp small) (omega arith) (omega arith))
    (omega arith) up
