use Rattle.std.proofs.Common.{length}
use Rattle.zk_line.proofs.needs.+of_events.Given as goal

abbrev pub decreases-of_events : goal.decreases-of_events
decreases-of_events l = length l.events.now
