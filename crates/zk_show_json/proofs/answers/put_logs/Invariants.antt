use Rattle.std.proofs.Common.{◌≡◌, ◌++◌, drop}
use Rattle.zk_show_json.specs.Arrays.{parts}
use Rattle.zk_show_json.specs.Values.{answered, answer_value}
use Rattle.zk_show_json.proofs.answers.put_logs.Given as goal

abbrev pub invariant-loop-player : goal.invariant-loop-player
invariant-loop-player l = record {
  text : l.out.put ++ parts (answer_value l.scenario.decls) l.begun (answered l.player (drop l.player l.logs)) ≡
      l.initial.out.put ++ parts (answer_value l.scenario.decls) l.initial.begun (answered 0 l.logs);
  front : l.out.front ≡ l.initial.out.front;
}
