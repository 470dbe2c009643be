use Rattle.zk_kernel.specs.Rests.{AreAllCallers}
use Rattle.zk_test_kernel.proofs.rounds.play_rounds.Given as goal

-- they are all callers still
abbrev pub invariant-loop-round : goal.invariant-loop-round
invariant-loop-round g l = AreAllCallers l.kernel l.callers.items
