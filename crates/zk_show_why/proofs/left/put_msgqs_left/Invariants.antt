use Rattle.std.proofs.Common.{◌≡◌, ◌++◌, drop}
use Rattle.zk_show_why.specs.Left.{msgqs_left}
use Rattle.zk_show_why.proofs.left.put_msgqs_left.Given as goal

-- what is left in the queues that are left goes behind what is there now
abbrev pub invariant-loop-object : goal.invariant-loop-object
invariant-loop-object l =
    l.told.items ++ msgqs_left l.trace (drop l.object-index l.objects) ≡ l.initial.told.items ++ msgqs_left l.trace l.objects
