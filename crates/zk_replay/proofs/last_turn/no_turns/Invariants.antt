use Rattle.std.proofs.Common.{◌≡◌, false, vec_len, All}
use Rattle.zk_replay.specs.declared.last_turn.LastTurn.{LastTurn}
use Rattle.zk_replay.proofs.last_turn.no_turns.Given as goal

abbrev pub invariant-loop : goal.invariant-loop
invariant-loop l = record {
  none : All (λ (kept : LastTurn). kept.waits ≡ false) l.all.items;
  count : vec_len l.all ≡ l.counter;
}
