use Rattle.std.proofs.Common.{◌≡◌, ◌++◌, take, drop}
use Rattle.zk_model_bus.specs.Channel.{masked}
use Rattle.zk_model_bus.proofs.channel.mask.Given as goal

abbrev pub invariant-loop-observer : goal.invariant-loop-observer
invariant-loop-observer l = l.observers ≡ masked l.number l.on (take l.observer-index l.fn.observers)
    ++ drop l.observer-index l.fn.observers
