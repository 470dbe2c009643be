use Rattle.std.proofs.Common.{◌≡◌, length}
use Rattle.zk_cores.proofs.Finishing.{IsWithin}
use Rattle.zk_cores.proofs.finish.play_round.Given as goal

-- the round has come to this player
abbrev pub invariant-loop-number : goal.invariant-loop-number
invariant-loop-number l = record {
  scenario : l.rest.scenario ≡ l.fn.rest.scenario;
  long : length l.fn.rest.world.players ≡ l.number-end;
  within : IsWithin l.fn.rest.scenario l.fn.rest.world l.rest.world l.moved l.number;
}
