use Rattle.std.proofs.Common.{◌≡◌, ◌-◌, vec_len}
use Rattle.zk_worker.specs.Machines.{machines_of}
use Rattle.zk_world.specs.World.{world}
use Rattle.zk_replay.specs.Turning.{IsAlone, WithinRound}
use Rattle.zk_replay.specs.LastTurns.{AreKept}
use Rattle.zk_replay.specs.Sleeping.{AreAsleep}
use Rattle.zk_replay.proofs.turns.play_round.Given as goal

abbrev pub invariant-loop-number : goal.invariant-loop-number
invariant-loop-number g l =
    record {
      alone : IsAlone l.scenario (g.V.Services.alone l.services) (g.V.Services.machines l.services) (g.V.Services.serves l.services);
      places : vec_len l.waiting ≡ vec_len l.players;
      kept : AreKept (machines_of l.scenario) l.scenario (world (g.V.Services.shown l.services) l.players.items) l.waiting.items;
      asleep : AreAsleep (machines_of l.scenario) l.scenario (world (g.V.Services.shown l.services) l.players.items) l.sleepers;
      within : WithinRound (machines_of l.scenario) l.scenario (world (g.V.Services.shown l.initial.services) l.initial.players.items)
          (world (g.V.Services.shown l.services) l.players.items) l.moved (vec_len l.players - l.number) l.number;
    }

abbrev pub decreases-loop-number : goal.decreases-loop-number
decreases-loop-number g l = vec_len l.players - l.number
