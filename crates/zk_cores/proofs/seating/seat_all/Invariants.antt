use Rattle.std.proofs.Common.{◌≡◌, ◌≤◌, ◌++◌, length, map, All, vec_len, vec_capacity}
use Rattle.std.specs.Vec.Iter.{into_iter_items}
use Rattle.zk_kernel.specs.Callers.{IsCaller}
use Rattle.zk_cores.specs.Seats.{seat_caller}
use Rattle.zk_cores.proofs.Seated.{IsOf}
use Rattle.zk_cores.proofs.seating.seat_all.Given as goal

abbrev pub invariant-loop-caller : goal.invariant-loop-caller
invariant-loop-caller l = record {
  items : l.yielded ++ into_iter_items l.caller-iterator ≡ l.fn.callers.items;
  own : All (IsCaller l.kernel) (into_iter_items l.caller-iterator);
  callers : map seat_caller l.seats.items ≡ l.yielded;
  suits : All (IsOf l.kernel) l.seats.items;
  made : vec_len l.seats ≡ length l.yielded;
  room : length l.fn.callers.items ≤ vec_capacity l.seats;
}
