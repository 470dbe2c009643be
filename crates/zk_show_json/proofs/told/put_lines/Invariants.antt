use Rattle.std.proofs.Common.{◌≡◌, ◌++◌, length}
use Rattle.zk_show_json.specs.Arrays.{parts}
use Rattle.zk_show_json.specs.Escapes.{quoted}
use Rattle.zk_show_json.proofs.told.put_lines.Given as goal

abbrev pub invariant-loop-line : goal.invariant-loop-line
invariant-loop-line l = record {
  text : l.out.put ++ parts quoted l.begun l.lines ≡ l.initial.out.put ++ parts quoted l.initial.begun l.initial.lines;
  front : l.out.front ≡ l.initial.out.front;
}

abbrev pub decreases-loop-line : goal.decreases-loop-line
decreases-loop-line l = length l.lines
