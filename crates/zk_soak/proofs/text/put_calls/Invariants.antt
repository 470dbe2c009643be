use Rattle.std.proofs.Common.{◌≡◌, ◌++◌, ◌-◌}
use Rattle.std.specs.List.{flat_map}
use Rattle.zk_line.specs.Text.{call_line}
use Rattle.zk_scenario.specs.Spelling.{fed}
use Rattle.zk_soak.specs.Drawn.{calls_drawn, x_behind}
use Rattle.zk_soak.proofs.text.put_calls.Given as goal

-- what was written, and the calls that are left, are all
abbrev pub invariant-loop-made : goal.invariant-loop-made
invariant-loop-made l = record {
  text : l.out.items ++ flat_map (λ call. fed (call_line l.decls call)) (calls_drawn (l.calls - l._made) l.draws)
      ≡ l.initial.out.items ++ flat_map (λ call. fed (call_line l.decls call)) (calls_drawn l.calls l.initial.draws);
  behind : x_behind (l.calls - l._made) l.draws ≡ x_behind l.calls l.initial.draws;
}
