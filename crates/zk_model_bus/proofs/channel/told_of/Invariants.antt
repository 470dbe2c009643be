use Rattle.std.proofs.Common.{◌≡◌, ◌≤◌, take, length}
use Rattle.zk_model_bus.specs.Channel.{told_of}
use Rattle.zk_model_bus.proofs.channel.told_of.Given as goal

abbrev pub invariant-loop-observer : goal.invariant-loop-observer
invariant-loop-observer l = (l.told ≡ told_of (take l.observer-index l.observers)) × (length l.told ≤ l.observer-index)
