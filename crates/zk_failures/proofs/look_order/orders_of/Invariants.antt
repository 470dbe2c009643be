use Rattle.std.proofs.Common.{◌≡◌, [], ◌++◌, length, take, drop}
use Rattle.zk_failures.specs.LookOrder.{IsFloor, orders_from}
use Rattle.zk_failures.proofs.look_order.orders_of.Given as goal

-- what was seen so far, and how the steps so far stand
abbrev pub invariant-loop-step : goal.invariant-loop-step
invariant-loop-step l = record {
  objects : length l.floor.stamps.items ≡ l.objects;
  floor : IsFloor l.floor (take l.step l.spots);
  orders : l.orders.items ++ orders_from (take l.step l.spots) (drop l.step l.spots) ≡ orders_from [] l.spots;
}
