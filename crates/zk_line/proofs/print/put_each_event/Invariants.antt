use Rattle.std.proofs.Common.{◌≡◌, ◌++◌, length, map}
use Rattle.zk_base.specs.Fronts.{StaysInFront}
use Rattle.zk_line.specs.declared.types.Arg.TheVariants as arg
use Rattle.zk_line.specs.Args.{arg_text}
use Rattle.zk_line.specs.Text.{behind}
use Rattle.zk_line.proofs.print.put_each_event.Given as goal

abbrev pub invariant-loop-events : goal.invariant-loop-events
invariant-loop-events l = record {
  text : l.out.items ++ behind (map (arg_text l.decls) (map arg.Event l.events)) ≡ l.initial.out.items ++ behind (map (arg_text l.decls) (map arg.Event l.initial.events));
  kept : StaysInFront l.initial.out.items l.out.items;
}

abbrev pub decreases-loop-events : goal.decreases-loop-events
decreases-loop-events l = length l.events
