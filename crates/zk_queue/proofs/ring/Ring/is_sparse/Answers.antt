use Rattle.std.proofs.Common.{◌≡◌, ℕ, ◌+◌, ◌*◌, nat_lt, length, ap, ◌∙◌, arith}
use Rattle.std.proofs.lemmas.Bool.Decides.{nat_tests}
use Rattle.zk_queue.specs.Ring.{RingView, living}
use Rattle.zk_queue.proofs.ring.Ring.is_sparse.Goals as goal

more-dead : (dead live all : ℕ) → dead + live ≡ all → nat_lt all (2 * dead) ≡ nat_lt (2 * live) all
more-dead dead live all counted = grind (arith, nat_tests)

pub returns : goal.returns
returns c =
    let i = c.self.inside in
    let long = c.len.ensures ∙ i.entries.ok.0 in
    ap (λ (n : ℕ). nat_lt n (2 * i.dead)) long
    ∙ more-dead i.dead (length (living i.entries.items)) (length i.entries.items) c.self.invariant
    ∙ ap (λ (r : RingView). nat_lt (2 * length (living r.entries)) (length r.entries)) c.self.view_is
