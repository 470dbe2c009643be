use Rattle.std.proofs.Common.{◌≡◌, length}
use Rattle.zk_test_kernel.proofs.rounds.finish.Given as goal

-- as many players as at first, and the scenario stays
abbrev pub invariant-loop-number : goal.invariant-loop-number
invariant-loop-number l = record {
  long : length l.rest.world.players ≡ l.number-end;
  same : l.rest.scenario ≡ l.fn.rest.scenario;
}

abbrev pub invariant-loop-round : goal.invariant-loop-round
invariant-loop-round l = l.rest.scenario ≡ l.fn.rest.scenario
