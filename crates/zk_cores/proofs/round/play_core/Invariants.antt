use Rattle.zk_cores.specs.Seats.{IsAtWork}
use Rattle.zk_cores.proofs.round.play_core.Given as goal

-- the core keeps whom it keeps still
abbrev pub invariant-loop : goal.invariant-loop
invariant-loop g l =
    (goal.iterator-loop g).can_next l.iterator' × (goal.iterator-loop g).is_finite l.iterator'
    × IsAtWork l.pool l.core
