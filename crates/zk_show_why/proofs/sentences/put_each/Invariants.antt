use Rattle.std.proofs.Common.{ℕ, List, drop}
use Rattle.zk_base.specs.Fronts.{StaysInFront}
use Rattle.zk_show_why.specs.Sentences.{TellsEach}
use Rattle.zk_show_why.proofs.sentences.put_each.Given as goal

-- what tells each of the players that are left, behind what is there now, tells each of them
abbrev pub invariant-loop-player : goal.invariant-loop-player
invariant-loop-player l = record {
  told : (end : List ℕ) →
      TellsEach l.run.scenario.now.decls l.run.trace.now l.state (drop l.player-index l.players) l.out.items end →
      TellsEach l.run.scenario.now.decls l.run.trace.now l.state l.players l.initial.out.items end;
  kept : StaysInFront l.initial.out.items l.out.items;
}
