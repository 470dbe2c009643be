use Rattle.std.proofs.Common.{◌≡◌, take, map}
use Rattle.zk_model_bus.specs.Channel.{unmasked}
use Rattle.zk_model_bus.proofs.channel.all_unmasked.Given as goal

abbrev pub invariant-loop-number : goal.invariant-loop-number
invariant-loop-number l = l.observers.items ≡ map unmasked (take l.number-index l.numbers)
