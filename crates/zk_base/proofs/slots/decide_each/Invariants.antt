use Rattle.std.proofs.Common.{◌≡◌, ◌++◌, take, drop, map}
use Rattle.zk_base.specs.Slots.{decided_all}
use Rattle.zk_base.proofs.slots.decide_each.Given as goal

abbrev pub invariant-loop-slot : goal.invariant-loop-slot
invariant-loop-slot g l = l.slots ≡ map (decided_all l.number l.answer) (take l.slot-index l.fn.slots)
    ++ drop l.slot-index l.fn.slots
