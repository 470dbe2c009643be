use Rattle.std.proofs.Common.{◌≡◌, ◌++◌, drop}
use Rattle.zk_show_why.specs.Times.{dues_words}
use Rattle.zk_show_why.proofs.times.put_dues.Given as goal

-- what is said of the items that are left goes behind what is there now
abbrev pub invariant-loop-item : goal.invariant-loop-item
invariant-loop-item l = l.out.items ++ dues_words l.scenario.decls l.trace l.item (drop l.item l.objects)
    ≡ l.initial.out.items ++ dues_words l.scenario.decls l.trace 0 l.objects
