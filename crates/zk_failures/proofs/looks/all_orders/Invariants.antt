use Rattle.std.proofs.Common.{◌≡◌, ◌++◌, drop}
use Rattle.zk_failures.specs.LooksHeld.{all_orders}
use Rattle.zk_failures.proofs.looks.all_orders.Given as goal

abbrev pub invariant-loop-log : goal.invariant-loop-log
invariant-loop-log l = l.orders.items ++ all_orders (drop l.log-index l.logs) ≡ all_orders l.logs
