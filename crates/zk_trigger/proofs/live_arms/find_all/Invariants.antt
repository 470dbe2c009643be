use Rattle.std.proofs.Common.{◌≡◌, ◌≤◌, take, vec_len, vec_capacity}
use Rattle.zk_trigger.specs.Live.{all_sought}
use Rattle.zk_trigger.proofs.live_arms.find_all.Given as goal

abbrev pub invariant-loop-index : goal.invariant-loop-index
invariant-loop-index l = record {
  items : l.found.items ≡ all_sought l.sought (take l.index l.waiting);
  len : vec_len l.found ≤ l.index;
  capacity : vec_capacity l.fn.found ≤ vec_capacity l.found;
}
