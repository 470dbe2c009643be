use Rattle.std.proofs.Common.{◌≡◌, ◌++◌, length, map}
use Rattle.zk_base.specs.Fronts.{StaysInFront}
use Rattle.zk_line.specs.Args.{arg_text}
use Rattle.zk_line.specs.Calls.{standing}
use Rattle.zk_line.specs.Text.{behind}
use Rattle.zk_line.proofs.print.put_args.Given as goal

abbrev pub invariant-loop-args : goal.invariant-loop-args
invariant-loop-args l = record {
  text : l.out.items ++ behind (map (arg_text l.decls) (standing l.args)) ≡ l.initial.out.items ++ behind (map (arg_text l.decls) (standing l.initial.args));
  kept : StaysInFront l.initial.out.items l.out.items;
}

abbrev pub decreases-loop-args : goal.decreases-loop-args
decreases-loop-args l = length l.args
