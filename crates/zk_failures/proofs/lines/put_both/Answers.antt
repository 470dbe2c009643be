use Rattle.std.proofs.Common.{◌≡◌, ℕ, ◌+◌, List, [], ◌∷◌, ◌++◌, append_assoc, drop, length, add-one, arith, sym, ap, ◌∙◌}
use Rattle.zk_trace.specs.Text.{looks_at}
use Rattle.zk_failures.specs.Lines.{both_lengths}
use Rattle.zk_failures.proofs.Counted.{both-more}
use Rattle.zk_failures.proofs.lines.put_both.Goals as goal

pub loop-object-preserved : goal.loop-object-preserved
loop-object-preserved g c =
    let hs = c.args.writes.now in
    let looks = c.args.looks.now in
    let object = c.loop-object.object in
    let before = c.loop-object.lengths.items in
    let rest : ℕ → List ℕ = λ n. both_lengths (drop n hs) (drop n looks) in
    let more = both-more hs looks object c.index-writes-object.result (omega arith) c.index-writes-object.is in
    let one : ℕ = length c.items.result.now + length c.looks_at-seen.result.now in
    let many : one ≡ length c.index-writes-object.result + length (looks_at looks object) =
    ap (λ h. length h + length c.looks_at-seen.result.now) c.items.ensures ∙ ap (λ l. length c.index-writes-object.result + length l) c.looks_at-seen.ensures in
    ap (λ l. l ++ rest (object + 1)) c.in_ok-push.ensures.items ∙ append_assoc before (one ∷ []) (rest (object + 1))
    ∙ ap (λ l. before ++ l) (ap (λ n. n ∷ rest (object + 1)) many ∙ ap (λ n. (length c.index-writes-object.result + length (looks_at looks object)) ∷ rest n) (add-one object) ∙ sym more)
    ∙ c.loop-object.invariant
