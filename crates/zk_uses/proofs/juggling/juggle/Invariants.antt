use Rattle.std.proofs.Common.{◌≤◌}
use Rattle.zk_uses.specs.Juggling.{IsFree, HaveTaken}
use Rattle.zk_uses.proofs.juggling.juggle.Given as goal

abbrev pub invariant-loop-taken : goal.invariant-loop-taken
invariant-loop-taken g l =
    IsFree g.T.Numbered.number g.T.Numbered.home l.pool l.hand
    × HaveTaken l._taken l.fn.hand l.hand l.caught
    × (l.caught ≤ l._taken)
