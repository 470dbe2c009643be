use Rattle.std.proofs.Common.{◌≡◌, ◌++◌, drop}
use Rattle.zk_failures.specs.Lines.{both_lengths}
use Rattle.zk_failures.proofs.lines.put_both.Given as goal

abbrev pub invariant-loop-object : goal.invariant-loop-object
invariant-loop-object g l = l.lengths.items ++ both_lengths (drop l.object l.writes) (drop l.object l.looks) ≡ l.fn.lengths.items ++ both_lengths l.writes l.looks
