use Rattle.std.proofs.Common.{◌≡◌, ◌≤◌, reverse, vec_len, vec_capacity}
use Rattle.zk_worker.specs.Protocol.{settled}
use Rattle.zk_worker.proofs.stack.settle.Given as goal

abbrev pub invariant-loop-stack : goal.invariant-loop-stack
invariant-loop-stack l = record {
  frames : settled l.scenario (reverse l.stack.items) ≡ settled l.scenario (reverse l.initial.stack.items);
  capacity : vec_capacity l.initial.stack ≤ vec_capacity l.stack;
}

abbrev pub decreases-loop-stack : goal.decreases-loop-stack
decreases-loop-stack l = vec_len l.stack
