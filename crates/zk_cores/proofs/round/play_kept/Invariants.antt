use Rattle.zk_cores.specs.Seats.{IsAtWork}
use Rattle.zk_cores.proofs.round.play_kept.Given as goal

-- the core keeps whom it keeps still
abbrev pub invariant-loop : goal.invariant-loop
invariant-loop g l = IsAtWork l.pool l.core
