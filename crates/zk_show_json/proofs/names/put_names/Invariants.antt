use Rattle.std.proofs.Common.{◌≡◌, ◌++◌, drop}
use Rattle.zk_show_json.specs.Arrays.{parts}
use Rattle.zk_show_json.specs.Values.{player_value}
use Rattle.zk_show_json.proofs.names.put_names.Given as goal

abbrev pub invariant-loop-object : goal.invariant-loop-object
invariant-loop-object l = record {
  text : l.out.put ++ parts (player_value l.decls) l.begun (drop l.object-index l.objects) ≡
      l.initial.out.put ++ parts (player_value l.decls) l.initial.begun l.objects;
  front : l.out.front ≡ l.initial.out.front;
}
