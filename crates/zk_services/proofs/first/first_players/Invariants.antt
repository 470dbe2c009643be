use Rattle.std.proofs.Common.{◌≡◌}
use Rattle.zk_services.specs.Starts.{starts}
use Rattle.zk_services.proofs.first.first_players.Given as goal

abbrev pub invariant-loop-number : goal.invariant-loop-number
invariant-loop-number l = l.made.items ≡ starts l.scenario l.number
