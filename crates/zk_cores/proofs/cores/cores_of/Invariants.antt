use Rattle.std.proofs.Common.{◌≡◌, ◌≤◌, ◌++◌, length, All, vec_len, vec_capacity}
use Rattle.std.specs.Vec.Iter.{into_iter_items}
use Rattle.zk_pool.specs.Hands.{IsNewHand}
use Rattle.zk_cores.specs.Seats.{seat_number, seat_kernel, IsReady}
use Rattle.zk_cores.proofs.cores.cores_of.Given as goal

abbrev pub invariant-loop-hand : goal.invariant-loop-hand
invariant-loop-hand l = record {
  items : l.yielded ++ into_iter_items l.hand-iterator ≡ l.fn.hands.items;
  new : All (IsNewHand seat_number seat_kernel l.pool) (into_iter_items l.hand-iterator);
  ready : All (IsReady l.pool) l.core_list.items;
  made : vec_len l.core_list ≡ length l.yielded;
  room : length l.fn.hands.items ≤ vec_capacity l.core_list;
}
