use Rattle.std.proofs.Common.{length}
use Rattle.zk_worker.proofs.polls.+watch_ahead.Given as goal

abbrev pub decreases-watch_ahead : goal.decreases-watch_ahead
decreases-watch_ahead l = length l.events.now
