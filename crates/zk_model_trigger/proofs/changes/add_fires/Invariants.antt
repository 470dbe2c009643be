use Rattle.std.proofs.Common.{◌≡◌, ◌+◌, ◌≤◌, ◌++◌, length, map, take, vec_len, vec_capacity}
use Rattle.zk_model_trigger.specs.Arms.{fire_of}
use Rattle.zk_model_trigger.proofs.changes.add_fires.Given as goal

abbrev pub invariant-loop-arm : goal.invariant-loop-arm
invariant-loop-arm l = record {
  items : l.fires.items ≡ l.fn.fires.items ++ map (fire_of l.cause) (take l.arm-index l.arms);
  room : vec_len l.fires + length l.arms ≤ vec_capacity l.fires + l.arm-index;
}
