use Rattle.std.proofs.Common.{ℕ, List, drop}
use Rattle.zk_base.specs.Fronts.{StaysInFront}
use Rattle.zk_show_why.specs.Leavings.{TellsLefts}
use Rattle.zk_show_why.proofs.leavings.put_lefts.Given as goal

-- what tells each of those that are left, behind what is there now, tells each of them
abbrev pub invariant-loop-left : goal.invariant-loop-left
invariant-loop-left l = record {
  told : (end : List ℕ) → TellsLefts l.run.scenario.now.decls (drop l.left-index l.lefts) l.out.items end →
      TellsLefts l.run.scenario.now.decls l.lefts l.initial.out.items end;
  kept : StaysInFront l.initial.out.items l.out.items;
}
