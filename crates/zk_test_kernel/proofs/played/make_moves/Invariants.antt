use Rattle.zk_kernel.specs.Rests.{AreAllCallers}
use Rattle.zk_test_kernel.proofs.played.make_moves.Given as goal

-- they are all callers still
abbrev pub invariant-loop-index : goal.invariant-loop-index
invariant-loop-index g l = AreAllCallers l.kernel l.callers.items
