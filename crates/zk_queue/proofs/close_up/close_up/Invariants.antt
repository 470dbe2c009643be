use Rattle.std.proofs.Common.{◌≡◌, ◌+◌, ◌-◌, ◌≤◌, length, map, Some, All}
use Rattle.zk_queue.specs.declared.ticket.Ticket.{Ticket}
use Rattle.zk_queue.specs.Places.{IsHome, StandsIn, LeavesPlaces}
use Rattle.zk_queue.specs.Ring.{living}
use Rattle.zk_queue.proofs.Lives.{turns}
use Rattle.zk_queue.proofs.close_up.close_up.Given as goal

-- the turns that are left take out the dead entries that are left
abbrev pub invariant-loop : goal.invariant-loop
invariant-loop l = record {
  turns : turns (length l.fn.ring.entries - l.counter) l.ring.entries ≡ map (λ (t : Ticket). Some t) (living l.fn.ring.entries);
  left : length l.fn.ring.entries ≤ length l.ring.entries + l.counter;
  capacity : l.ring.capacity ≡ l.fn.ring.capacity;
  homes : All (IsHome l.places l.queue) (living l.ring.entries);
  stands : StandsIn l.places l.queue l.ring;
  places : LeavesPlaces l.queue l.fn.places l.places;
}
