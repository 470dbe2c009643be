use Rattle.std.proofs.Common.{length}
use Rattle.zk_worker.proofs.polls.+add_ready.Given as goal

abbrev pub decreases-add_ready : goal.decreases-add_ready
decreases-add_ready l = length l.marks.now
