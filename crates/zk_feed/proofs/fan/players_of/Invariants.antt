use Rattle.std.proofs.Common.{◌≡◌, ◌≤◌, vec_capacity, vec_len}
use Rattle.zk_feed.specs.Feeding.{players_upto}
use Rattle.zk_feed.proofs.fan.players_of.Given as goal

abbrev pub invariant-loop-number : goal.invariant-loop-number
invariant-loop-number l = record {
  items : l.players.items ≡ players_upto l.number;
  made : vec_len l.players ≡ l.number;
  room : l.fn.size.publishers ≤ vec_capacity l.players;
}
