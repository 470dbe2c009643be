use Rattle.std.proofs.Common.{◌≡◌, ◌++◌, take}
use Rattle.std.specs.List.{flat_map}
use Rattle.zk_trace.specs.Names.{name_behind}
use Rattle.zk_trace.proofs.names.put_names_behind.Given as goal

abbrev pub invariant-loop-object : goal.invariant-loop-object
invariant-loop-object l = record {
  text : l.out.put ≡ l.initial.out.put ++ flat_map (name_behind l.scenario.decls) (take l.object-index l.objects);
  front : l.out.front ≡ l.initial.out.front;
}
