use Rattle.std.proofs.Common.{◌≡◌, drop}
use Rattle.std.specs.List.{list_any}
use Rattle.zk_queue.specs.Line.{has_number}
use Rattle.zk_queue.specs.Ring.{living}
use Rattle.zk_queue.proofs.ring.Ring.has_number.Given as goal

abbrev pub invariant-loop-index : goal.invariant-loop-index
invariant-loop-index l =
    list_any (has_number l.number) (living (drop l.index l.self.entries)) ≡ list_any (has_number l.number) (living l.self.entries)
