use Rattle.std.proofs.Common.{◌≡◌, ◌+◌, drop}
use Rattle.zk_time.specs.Deltas.{span}
use Rattle.zk_time.proofs.deltas.place_for.Given as goal

abbrev pub invariant-loop-index : goal.invariant-loop-index
invariant-loop-index l = span (drop l.index l.arms) + l.delta ≡ l.deadline
