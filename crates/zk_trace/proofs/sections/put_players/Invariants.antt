use Rattle.std.proofs.Common.{◌≡◌, ◌++◌, drop}
use Rattle.zk_trace.specs.declared.format.Format.TheVariants.{Two}
use Rattle.zk_trace.specs.Text.{player_sections}
use Rattle.zk_trace.proofs.sections.put_players.Given as goal

abbrev pub invariant-loop-player : goal.invariant-loop-player
invariant-loop-player l = record {
  text : l.out.put ++ player_sections Two l.scenario.decls l.player (drop l.player l.logs) ≡ l.initial.out.put ++ player_sections Two l.scenario.decls 0 l.logs;
  front : l.out.front ≡ l.initial.out.front;
}
