use Rattle.std.proofs.Common.{◌≡◌, ℕ, ◌+◌, ◌-◌, slice_get, vec_len}
use Rattle.std.specs.Option.{option_flatten}
use Rattle.zk_scenario.proofs.scripts.widen.Given as goal

abbrev pub invariant-loop-by_owner : goal.invariant-loop-by_owner
invariant-loop-by_owner l = (k : ℕ) → option_flatten (slice_get l.by_owner.items k) ≡ option_flatten (slice_get l.initial.by_owner.items k)

abbrev pub decreases-loop-by_owner : goal.decreases-loop-by_owner
decreases-loop-by_owner l = l.owner + 1 - vec_len l.by_owner
