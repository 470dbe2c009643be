use Rattle.std.proofs.Common.{◌≡◌, ◌≤◌, ◌+◌, All, length, map, vec_capacity, vec_len}
use Rattle.zk_feed.specs.Feeding.{AreRows, AreSubs, notes_in}
use Rattle.zk_feed.specs.Output.{IsHeard}
use Rattle.zk_feed.proofs.hearing.hear.Given as goal

abbrev pub invariant-loop-sub : goal.invariant-loop-sub
invariant-loop-sub g l = record {
  subs : AreSubs l.fn.size l.subs.items l.takers.items;
  rows : AreRows l.subs.items l.fn.size.messages l.rows.items;
  many : length l.rows.items ≡ l.fn.size.publishers;
  all : vec_len l.subs + vec_len l.heard ≡ l.fn.size.subscribers;
  room : l.fn.size.subscribers ≤ vec_capacity l.heard;
  each : All (IsHeard l.fn.size) (map notes_in l.heard.items);
}

abbrev pub decreases-loop-sub : goal.decreases-loop-sub
decreases-loop-sub g l = vec_len l.subs
