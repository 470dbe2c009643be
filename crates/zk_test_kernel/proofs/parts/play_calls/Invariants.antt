use Rattle.std.proofs.Common.{◌≡◌}
use Rattle.zk_kernel.specs.Callers.{IsCaller, place_of}
use Rattle.zk_test_kernel.proofs.parts.play_calls.Given as goal

-- it is a caller of this kernel still, of the same player
abbrev pub invariant-loop : goal.invariant-loop
invariant-loop g l =
    (goal.iterator-loop g).can_next l.iterator' × (goal.iterator-loop g).is_finite l.iterator'
    × IsCaller l.kernel l.caller × ((place_of l.caller).who ≡ (place_of l.fn.caller).who)
