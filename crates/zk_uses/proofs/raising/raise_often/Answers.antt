use Rattle.std.proofs.Common.{ℕ, List, [], ◌∷◌, ◌++◌, length, map, sym, ap, ◌∙◌, arith}
use Rattle.std.proofs.lemmas.List.{length-append, map-append}
use Rattle.zk_signal.specs.Passes.{pass_writes}
use Rattle.zk_signal.specs.Words as words
use Rattle.zk_uses.specs.declared.raising.Raised.{Raised}
use Rattle.zk_uses.specs.Raising.{stamp_of}
use Rattle.zk_uses.proofs.raising.raise_often.Goals as goal

pub loop-value-preserved : goal.loop-value-preserved
loop-value-preserved c =
    let inv = c.loop-value.invariant in
    let raised = c.raise-stamp.ensures in
    let stamp = c.raise-stamp.result in
    let player = c.args.raiser.player in
    let kept = map-append stamp_of c.loop-value.writes.items (record { player = player; stamp = stamp } ∷ []) in
    let told = ap (map words.stamp_of) raised.wrote.writes
    ∙ map-append words.stamp_of (pass_writes c.loop-value.pass) (words.raised_at stamp c.loop-value.value ∷ []) in
    let long = ap (λ (l : List Raised). length l) c.push_within.ensures.items
    ∙ length-append c.loop-value.writes.items (record { player = player; stamp = stamp } ∷ []) in
    let count = inv.3 in
    let room = raised.wrote.room in
    let spare = inv.5 in
    let more = c.push_within.ensures.capacity in
    let fits = inv.6 in (
      raised.own,
      raised.wrote.players ∙ inv.1,
      ap (map stamp_of) c.push_within.ensures.items ∙ kept ∙ ap (λ (l : List ℕ). l ++ stamp ∷ []) inv.2 ∙ sym told,
      omega arith,
      raised.rise inv.4,
      omega arith,
      omega arith,
    )
