use Rattle.zk_base.specs.Fronts.{StaysInFront}
use Rattle.zk_show_why.proofs.mistakes.put_further.Given as goal

abbrev pub invariant-loop : goal.invariant-loop
invariant-loop l = StaysInFront l.initial.out.items l.out.items
