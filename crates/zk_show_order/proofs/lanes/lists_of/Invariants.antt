use Rattle.std.proofs.Common.{◌<◌, length, All}
use Rattle.zk_show_order.specs.Lanes.{AreQueued}
use Rattle.zk_show_order.proofs.lanes.lists_of.Given as goal

abbrev pub invariant-loop-place : goal.invariant-loop-place
invariant-loop-place l = record {
  queued : AreQueued l.lines l.place l.lists.items;
  players : All (λ line. line.player < length l.lists.items) l.lines;
}
