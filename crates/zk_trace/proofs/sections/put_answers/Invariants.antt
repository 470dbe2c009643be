use Rattle.std.proofs.Common.{◌≡◌, ◌++◌, take}
use Rattle.std.specs.List.{flat_map}
use Rattle.zk_trace.specs.Text.{answer_line}
use Rattle.zk_trace.proofs.sections.put_answers.Given as goal

abbrev pub invariant-loop-place : goal.invariant-loop-place
invariant-loop-place l = record {
  text : l.out.put ≡ l.initial.out.put ++ flat_map (answer_line l.scenario.decls) (take l.place l.answers);
  front : l.out.front ≡ l.initial.out.front;
}
