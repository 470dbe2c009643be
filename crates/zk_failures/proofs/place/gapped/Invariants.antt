use Rattle.std.proofs.Common.{ℕ, ◌<◌}
use Rattle.zk_failures.specs.Own.{IsGapAt}
use Rattle.zk_failures.proofs.place.gapped.Given as goal

abbrev pub invariant-loop-player : goal.invariant-loop-player
invariant-loop-player l = (k : ℕ) → k < l.player → IsGapAt l.most l.owns k → ⊥
