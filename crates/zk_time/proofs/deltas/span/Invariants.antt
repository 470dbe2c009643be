use Rattle.std.proofs.Common.{◌≡◌, take}
use Rattle.zk_time.specs.Deltas.{span}
use Rattle.zk_time.proofs.deltas.span.Given as goal

abbrev pub invariant-loop-arm : goal.invariant-loop-arm
invariant-loop-arm l = l.ticks ≡ span (take l.arm-index l.arms)
