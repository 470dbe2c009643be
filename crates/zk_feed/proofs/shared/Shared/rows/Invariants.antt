use Rattle.std.proofs.Common.{◌≡◌, ◌≤◌, ◌+◌, ℕ, vec_capacity, vec_len}
use Rattle.zk_feed.specs.Feeding.{AreColumns, AreNewRows}
use Rattle.zk_feed.proofs.shared.Shared.rows.Given as goal

abbrev pub invariant-loop-made : goal.invariant-loop-made
invariant-loop-made l = record {
  left : ℕ;
  count : left + l.made ≡ l.self.size.publishers;
  columns : AreColumns left l.self.subs.items l.columns.items;
  rows : AreNewRows l.self.size l.self.subs.items left l.rows.items;
  made : vec_len l.rows ≡ l.made;
  room : l.self.size.publishers ≤ vec_capacity l.rows;
}
