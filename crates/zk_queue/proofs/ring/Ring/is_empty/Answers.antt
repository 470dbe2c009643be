use Rattle.std.proofs.Common.{◌≡◌, ℕ, ◌+◌, ◌==◌, length, ap, ◌∙◌, arith}
use Rattle.std.proofs.lemmas.Bool.Decides.{nat_tests}
use Rattle.zk_queue.specs.Ring.{RingView, living}
use Rattle.zk_queue.proofs.ring.Ring.is_empty.Goals as goal

none-left : (dead live all : ℕ) → dead + live ≡ all → (dead == all) ≡ (live == 0)
none-left dead live all counted = grind (arith, nat_tests)

pub returns : goal.returns
returns c =
    let i = c.self.inside in
    let long = c.len.ensures ∙ i.entries.ok.0 in
    ap (λ (n : ℕ). i.dead == n) long
    ∙ none-left i.dead (length (living i.entries.items)) (length i.entries.items) c.self.invariant
    ∙ ap (λ (r : RingView). length (living r.entries) == 0) c.self.view_is
