use Rattle.std.proofs.Common.{◌<◌, ◌≤◌, [], ◌∷◌, ◌++◌, length, take, get_or, sym, ap, subst, ◌∙◌}
use Rattle.std.proofs.lemmas.List.{take_more, take_all}
use Rattle.zk_base.specs.Legal.{IsLegal}
use Rattle.zk_turn.specs.Words.{word_after}
use Rattle.zk_turn.specs.Passes.{IsPublishing, IsStamped}
use Rattle.zk_turn.proofs.Passes.{publishing_stamped}
use Rattle.zk_turn.proofs.Glances.{stamped_none, stamped_more, stamped_past, change_now}
use Rattle.zk_turn.proofs.cell.Cell.stamp_all.Goals as goal
use Rattle.zk_turn.proofs.cell.Cell.stamp_all.Goals.{then-index-WORDS, else-index-WORDS}

pub loop-place-init : goal.loop-place-init
loop-place-init g c = (c.requires.table, stamped_none g.S.Service.WORDS c.args.seat.now.me)

pub stamp-requires-clause-table : goal.stamp-requires-clause-table
stamp-requires-clause-table g c = c.loop-place.invariant.0

pub stamp-requires-clause-change : goal.stamp-requires-clause-change
stamp-requires-clause-change g c =
    let x = c.args.service.now in
    let stamped = c.loop-place.invariant.1 in
    let there = publishing_stamped (IsLegal g.S.Service.machine) g.S.Service.start g.S.Service.history x c.args.seat.now.me.0 stamped.stamped c.requires.flight in
    let now = subst (λ u. IsPublishing (IsLegal g.S.Service.machine) g.S.Service.start g.S.Service.history x u) (sym (ap (λ m. m.0) stamped.now)) there in
    change_now (IsLegal g.S.Service.machine) g.S.Service.start g.S.Service.history (word_after g.S.Service.machine g.S.Service.word)
    x c.loop-place.seat.me.0 (get_or c.touched-touched.result.now c.loop-place.place 0) c.word.result (length c.history.result.now) now c.word.ensures.word
    (c.word.ensures.small (subst (λ n. get_or c.touched-touched.result.now c.loop-place.place 0 < n) c.WORDS.ensures c.if-index-WORDS.true)) (ap (λ l. length l) c.history.ensures.history)

pub loop-place-preserved : goal.loop-place-preserved
loop-place-preserved g c =
    let touched = c.touched-touched.result.now in
    let place = c.loop-place.place in
    let index = get_or touched place 0 in
    let more = take_more touched place 0 c.loop-place-test.true in
    let words = g.S.Service.WORDS in
    let old = c.args.seat.now.me in
    let is = c.WORDS.ensures in
    elim c.if-index-WORDS.branch [
      | then-index-WORDS w ↦ (
        ap (λ x. x.table_id) w.seat-is ∙ w.stamp.ensures.table ∙ c.loop-place.invariant.0,
        subst (λ l. IsStamped words l old c.if-index-WORDS.seat.me) (sym more)
            (subst (λ m. IsStamped words (take place touched ++ index ∷ []) old m) (sym (ap (λ x. x.me) w.seat-is))
            (stamped_more words (take place touched) index old c.loop-place.seat.me w.stamp.new.seat.me
            c.loop-place.invariant.1 w.stamp.ensures.stamped)),
      )
      | else-index-WORDS w ↦ (
        ap (λ x. x.table_id) w.seat-is ∙ c.loop-place.invariant.0,
        subst (λ l. IsStamped words l old c.if-index-WORDS.seat.me) (sym more)
            (subst (λ m. IsStamped words (take place touched ++ index ∷ []) old m) (sym (ap (λ x. x.me) w.seat-is))
            (stamped_past words (take place touched) index old c.loop-place.seat.me
            (subst (λ n. n ≤ index) is w.if-index-WORDS.false) c.loop-place.invariant.1)),
      )
    ]

pub returns-clause-stamped : goal.returns-clause-stamped
returns-clause-stamped g c =
    let touched = c.touched-touched.result.now in
    let all = take_all c.loop-place.place touched c.loop-place-test.false ∙ c.touched-touched.ensures in
    subst (λ l. IsStamped g.S.Service.WORDS l c.args.seat.now.me c.loop-place.seat.me) all c.loop-place.invariant.1
