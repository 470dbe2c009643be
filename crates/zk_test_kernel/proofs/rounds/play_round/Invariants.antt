use Rattle.std.proofs.Common.{◌≡◌, length}
use Rattle.zk_kernel.specs.Rests.{AreAllCallers}
use Rattle.zk_test_kernel.proofs.rounds.play_round.Given as goal

-- they are all callers still
abbrev pub invariant-loop-index : goal.invariant-loop-index
invariant-loop-index g l = record {
  all : AreAllCallers l.kernel l.callers.items;
  long : length l.callers.items ≡ l.index-end;
}
