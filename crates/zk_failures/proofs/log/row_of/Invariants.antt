use Rattle.std.proofs.Common.{◌≡◌, ℕ, ◌<◌, Some}
use Rattle.std.specs.List.{slice_get}
use Rattle.zk_trace.specs.declared.stood.Stood.{Stood}
use Rattle.zk_failures.proofs.log.row_of.Given as goal

abbrev pub invariant-loop-place : goal.invariant-loop-place
invariant-loop-place l =
    (k : ℕ) (line : Stood) → k < l.place → slice_get l.rows k ≡ Some line → (line.player ≡ l.player) × (line.step ≡ l.step) → ⊥
