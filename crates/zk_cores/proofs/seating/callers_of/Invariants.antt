use Rattle.std.proofs.Common.{◌≡◌, ◌≤◌, ◌++◌, length, map, vec_len, vec_capacity}
use Rattle.std.specs.Vec.Iter.{into_iter_items}
use Rattle.zk_cores.specs.Seats.{seat_caller}
use Rattle.zk_cores.proofs.seating.callers_of.Given as goal

abbrev pub invariant-loop-seat : goal.invariant-loop-seat
invariant-loop-seat l = record {
  items : l.yielded ++ into_iter_items l.seat-iterator ≡ l.fn.seats.items;
  callers : l.callers.items ≡ map seat_caller l.yielded;
  made : vec_len l.callers ≡ length l.yielded;
  room : length l.fn.seats.items ≤ vec_capacity l.callers;
}
