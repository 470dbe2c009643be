use Rattle.std.proofs.Common.{◌≡◌, ◌≤◌, ◌++◌, length, vec_capacity, vec_len}
use Rattle.std.specs.Vec.Iter.{into_iter_items}
use Rattle.zk_feed.specs.Feeding.{IsSoFar}
use Rattle.zk_feed.proofs.shared.Shared.gather.Given as goal

abbrev pub invariant-loop-feeder : goal.invariant-loop-feeder
invariant-loop-feeder l = record {
  items : l.yielded ++ into_iter_items l.feeder-iterator ≡ l.fn.feeders.items;
  so_far : IsSoFar l.self (length l.yielded) l.all l.rows.items;
  made : vec_len l.rows ≡ length l.yielded;
  room : length l.fn.feeders.items ≤ vec_capacity l.rows;
}
