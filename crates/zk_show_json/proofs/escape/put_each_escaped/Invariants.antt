use Rattle.std.proofs.Common.{◌≡◌, ◌++◌, take}
use Rattle.zk_show_json.specs.Escapes.{escaped}
use Rattle.zk_show_json.proofs.escape.put_each_escaped.Given as goal

abbrev pub invariant-loop-byte : goal.invariant-loop-byte
invariant-loop-byte l = record {
  text : l.out.put ≡ l.initial.out.put ++ escaped (take l.byte-index l.text);
  front : l.out.front ≡ l.initial.out.front;
}
