use Rattle.std.proofs.Common.{◌≡◌, ◌≤◌, ◌++◌, length, vec_capacity, vec_len}
use Rattle.std.specs.Vec.Iter.{into_iter_items}
use Rattle.zk_feed.specs.Feeding.{AreNewRows, AreReady}
use Rattle.zk_feed.proofs.shared.Shared.feeders.Given as goal

abbrev pub invariant-loop-pass : goal.invariant-loop-pass
invariant-loop-pass l = record {
  items : l.yielded ++ into_iter_items l.pass-iterator ≡ l.fn.passes.items;
  many : length l.fn.passes.items ≡ l.self.size.publishers;
  rows : AreNewRows l.self.size l.self.subs.items (length l.yielded) l.rows.items;
  ready : AreReady l.self (length l.yielded) l.feeders.items;
  made : vec_len l.feeders ≡ length l.yielded;
  room : length l.fn.passes.items ≤ vec_capacity l.feeders;
}
