use Rattle.std.proofs.Common.{◌≡◌, drop}
use Rattle.zk_model_work.specs.Lists.{first}
use Rattle.zk_queue.specs.Ring.{living}
use Rattle.zk_queue.proofs.ring.Ring.first.Given as goal

abbrev pub invariant-loop-index : goal.invariant-loop-index
invariant-loop-index l = first (living (drop l.index l.self.entries)) ≡ first (living l.self.entries)
