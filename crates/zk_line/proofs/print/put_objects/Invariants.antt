use Rattle.std.proofs.Common.{◌≡◌, ◌++◌, length, map}
use Rattle.zk_base.specs.Fronts.{StaysInFront}
use Rattle.zk_line.specs.Args.{arg_text}
use Rattle.zk_line.specs.Decls.{objects_said}
use Rattle.zk_line.specs.Text.{behind}
use Rattle.zk_line.proofs.print.put_objects.Given as goal

abbrev pub invariant-loop-objects : goal.invariant-loop-objects
invariant-loop-objects l = record {
  text : l.out.items ++ behind (map (arg_text l.decls) (objects_said l.objects)) ≡ l.initial.out.items ++ behind (map (arg_text l.decls) (objects_said l.initial.objects));
  kept : StaysInFront l.initial.out.items l.out.items;
}

abbrev pub decreases-loop-objects : goal.decreases-loop-objects
decreases-loop-objects l = length l.objects
