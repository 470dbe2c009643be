use Rattle.std.proofs.Common.{◌≡◌, false, length}
use Rattle.zk_kernel.specs.Callers.{IsCaller, place_of, is_stopped}
use Rattle.zk_kernel.specs.Calling.{moment_of}
use Rattle.zk_kernel.specs.Within.{IsUnderWay}
use Rattle.zk_kernel.proofs.caller.Caller.call.Given as goal

-- the call is under way, from where its caller stood at first
abbrev pub invariant-loop : goal.invariant-loop
invariant-loop g l =
    (goal.iterator-loop g).can_next l.iterator' × (goal.iterator-loop g).is_finite l.iterator'
    × IsCaller l.kernel l.self × IsUnderWay l.kernel l.call (moment_of l.fn.self) (moment_of l.self) × (is_stopped l.self ≡ false)
    × ((place_of l.self).who ≡ (place_of l.fn.self).who) × (l.depth ≡ length (place_of l.fn.self).frames)
