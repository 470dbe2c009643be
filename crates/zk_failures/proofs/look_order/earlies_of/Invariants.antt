use Rattle.std.proofs.Common.{◌≡◌, length, drop, reverse}
use Rattle.zk_failures.specs.LookOrder.{IsCeiling, earlies_of}
use Rattle.zk_failures.proofs.look_order.earlies_of.Given as goal

-- the places of the writes from here on, and whether those steps are early, the last one first
abbrev pub invariant-loop-step : goal.invariant-loop-step
invariant-loop-step l = record {
  objects : length l.places.items ≡ l.objects;
  ceiling : IsCeiling l.places.items (drop l.step l.spots);
  earlies : reverse l.earlies.items ≡ earlies_of (drop l.step l.spots);
}
