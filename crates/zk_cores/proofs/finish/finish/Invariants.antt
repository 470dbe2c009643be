use Rattle.std.proofs.Common.{◌≡◌}
use Rattle.zk_world.specs.Ready.{all_left}
use Rattle.zk_world.specs.Sound.{IsSound}
use Rattle.zk_cores.proofs.finish.finish.Given as goal

-- what is left is sound, and of the same scenario
abbrev pub invariant-loop : goal.invariant-loop
invariant-loop l = record {
  scenario : l.rest.scenario ≡ l.fn.rest.scenario;
  sound : IsSound l.rest.scenario l.rest.world;
}

abbrev pub decreases-loop : goal.decreases-loop
decreases-loop l = all_left l.rest.scenario l.rest.world.players
