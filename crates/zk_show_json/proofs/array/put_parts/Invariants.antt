use Rattle.std.proofs.Common.{◌≡◌, ◌++◌, drop, false}
use Rattle.zk_show_json.specs.Arrays.{parts}
use Rattle.zk_show_json.proofs.array.put_parts.Given as goal

abbrev pub invariant-loop-item : goal.invariant-loop-item
invariant-loop-item g l = record {
  text : l.out.put ++ parts g.X.Part.text l.begun (drop l.item-index l.items) ≡ l.initial.out.put ++ parts g.X.Part.text false l.items;
  front : l.out.front ≡ l.initial.out.front;
}
