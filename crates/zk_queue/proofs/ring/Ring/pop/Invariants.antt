use Rattle.std.proofs.Common.{◌≡◌, ◌+◌, None, length}
use Rattle.zk_queue.specs.Ring.{living, KeepsBut}
use Rattle.zk_queue.proofs.ring.Ring.pop.Given as goal

-- only dead entries are gone
abbrev pub invariant-loop : goal.invariant-loop
invariant-loop l = record {
  line : living l.self.entries ≡ living l.fn.self.entries;
  left : length l.self.entries + l.counter ≡ length l.fn.self.entries;
  capacity : l.self.capacity ≡ l.fn.self.capacity;
  keeps : KeepsBut None l.fn.self l.self;
}
