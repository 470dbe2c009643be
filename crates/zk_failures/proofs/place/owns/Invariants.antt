use Rattle.std.proofs.Common.{◌≡◌, [], length}
use Rattle.zk_failures.specs.Own.{AreOwn}
use Rattle.zk_failures.proofs.place.owns.Given as goal

abbrev pub invariant-loop-player : goal.invariant-loop-player
invariant-loop-player l = record { none : AreOwn [] l.owns.items; long : length l.owns.items ≡ l.player }
