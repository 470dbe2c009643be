use Rattle.std.proofs.Common.{◌≡◌, map}
use Rattle.zk_trace.proofs.trace_made.parted.Given as goal

abbrev pub invariant-loop-history : goal.invariant-loop-history
invariant-loop-history l = record {
  writes : l.histories.items ≡ map (λ both. both.0) l.yielded;
  looks : l.looks.items ≡ map (λ both. both.1) l.yielded;
}
