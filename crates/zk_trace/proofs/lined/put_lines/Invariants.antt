use Rattle.std.proofs.Common.{◌≡◌, ◌++◌, take}
use Rattle.std.specs.List.{flat_map}
use Rattle.zk_trace.proofs.lined.put_lines.Given as goal

abbrev pub invariant-loop-line : goal.invariant-loop-line
invariant-loop-line g l = record {
  text : l.out.put ≡ l.initial.out.put ++ flat_map (g.X.Lined.text l.scenario.decls) (take l.line-index l.lines);
  front : l.out.front ≡ l.initial.out.front;
}
