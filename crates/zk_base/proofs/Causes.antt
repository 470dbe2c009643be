-- Lemmas on counts of faults and of attempts.
use Rattle.std.proofs.Common.{ℕ, ◌≤◌, inl, inr, arith}
use Rattle.zk_base.specs.Causes.{Rose}

-- a count that rose since a moment rose since any moment before it
pub Rose-from : (first old new : ℕ) → first ≤ old → Rose old new → Rose first new
Rose-from first old new up (inl more) = inl (omega arith)
Rose-from first old new up (inr most) = inr most
