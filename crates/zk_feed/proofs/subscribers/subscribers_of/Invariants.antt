use Rattle.std.proofs.Common.{◌≡◌, ◌≤◌, vec_capacity, vec_len}
use Rattle.zk_feed.specs.Feeding.{AreColumns, AreSubs}
use Rattle.zk_feed.proofs.subscribers.subscribers_of.Given as goal

abbrev pub invariant-loop-made : goal.invariant-loop-made
invariant-loop-made l = record {
  subs : AreSubs l.size l.subs.items l.takers.items;
  columns : AreColumns l.size.publishers l.subs.items l.columns.items;
  made : vec_len l.subs ≡ l.made;
  takers : vec_len l.takers ≡ l.made;
  seats : vec_len l.columns ≡ l.made;
  room : l.size.subscribers ≤ vec_capacity l.subs;
  takers_room : l.size.subscribers ≤ vec_capacity l.takers;
  seats_room : l.size.subscribers ≤ vec_capacity l.columns;
}
