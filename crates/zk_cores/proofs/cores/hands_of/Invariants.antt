use Rattle.std.proofs.Common.{◌≡◌, ◌≤◌, ◌++◌, [], length, All, vec_len, vec_capacity}
use Rattle.std.specs.Vec.Iter.{into_iter_items}
use Rattle.zk_pool.specs.Hands.{IsHandOf, hand_held}
use Rattle.zk_cores.specs.Seats.{seat_number, seat_kernel, IsReady}
use Rattle.zk_cores.proofs.cores.hands_of.Given as goal

abbrev pub invariant-loop-core : goal.invariant-loop-core
invariant-loop-core l = record {
  items : l.yielded ++ into_iter_items l.core-iterator ≡ l.fn.core_list.items;
  ready : All (IsReady l.pool) (into_iter_items l.core-iterator);
  own : All (IsHandOf seat_number seat_kernel l.pool) l.hands.items;
  none : All (λ hand. hand_held hand ≡ []) l.hands.items;
  made : vec_len l.hands ≡ length l.yielded;
  room : length l.fn.core_list.items ≤ vec_capacity l.hands;
}
