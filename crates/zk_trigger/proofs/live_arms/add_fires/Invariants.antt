use Rattle.std.proofs.Common.{◌≡◌, ◌+◌, ◌++◌, map, take}
use Rattle.std.specs.VecDeque.{deque_len, deque_capacity}
use Rattle.zk_trigger.specs.Live.{fire_live}
use Rattle.zk_trigger.proofs.live_arms.add_fires.Given as goal

abbrev pub invariant-loop-arm : goal.invariant-loop-arm
invariant-loop-arm l = record {
  items : l.fires.items ≡ l.fn.fires.items ++ map (fire_live l.cause) (take l.arm-index l.arms);
  len : deque_len l.fires ≡ deque_len l.fn.fires + l.arm-index;
  capacity : deque_capacity l.fires ≡ deque_capacity l.fn.fires;
}
