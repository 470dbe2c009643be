use Rattle.std.proofs.Common.{◌≡◌, ◌-◌, ◌≤◌, [], length}
use Rattle.zk_gathering.specs.Looks.{by_number}
use Rattle.zk_gathering.proofs.looks.no_looks.Given as goal

abbrev pub invariant-loop-alloc : goal.invariant-loop-alloc
invariant-loop-alloc l = record {
  all : l.all.items ≡ by_number (λ object. []) (length l.all.items);
  most : length l.all.items ≤ l.objects;
}

abbrev pub decreases-loop-alloc : goal.decreases-loop-alloc
decreases-loop-alloc l = l.objects - length l.all.items
