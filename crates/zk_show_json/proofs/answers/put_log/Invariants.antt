use Rattle.std.proofs.Common.{◌≡◌, ◌++◌, drop, map}
use Rattle.zk_show_json.specs.Arrays.{parts}
use Rattle.zk_show_json.specs.Values.{answer_value, by_player}
use Rattle.zk_show_json.proofs.answers.put_log.Given as goal

abbrev pub invariant-loop-place : goal.invariant-loop-place
invariant-loop-place l = record {
  text : l.out.put ++ parts (answer_value l.scenario.decls) l.begun (map (by_player l.player) (drop l.place l.answers)) ≡
      l.initial.out.put ++ parts (answer_value l.scenario.decls) l.initial.begun (map (by_player l.player) l.answers);
  front : l.out.front ≡ l.initial.out.front;
}
