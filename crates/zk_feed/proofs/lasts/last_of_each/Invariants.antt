use Rattle.std.proofs.Common.{◌≡◌, ◌≤◌, ℕ, Some, Vec, Global, length, slice_get, vec_capacity, vec_len}
use Rattle.zk_msgsub.specs.declared.seats.PubSeat.{PubSeat}
use Rattle.zk_feed.specs.Lasts.{IsShorter}
use Rattle.zk_feed.proofs.lasts.last_of_each.Given as goal

-- those before this one lost their last seats, and the others are as they were
abbrev pub invariant-loop-line : goal.invariant-loop-line
invariant-loop-line l = record {
  many : length l.line-items ≡ length l.fn.lines.items;
  count : vec_len l.lasts ≡ l.line-index;
  room : length l.fn.lines.items ≤ vec_capacity l.lasts;
  taken : (k : ℕ) (o n : Vec PubSeat Global) (x : PubSeat) → slice_get l.fn.lines.items k ≡ Some o →
      slice_get l.line-items k ≡ Some n → slice_get l.lasts.items k ≡ Some x → IsShorter o n x;
  left : (k : ℕ) → l.line-index ≤ k → slice_get l.line-items k ≡ slice_get l.fn.lines.items k;
}
