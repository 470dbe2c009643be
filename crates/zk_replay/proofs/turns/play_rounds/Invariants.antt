use Rattle.std.proofs.Common.{◌≡◌, ℕ, false, vec_len}
use Rattle.zk_worker.specs.Machines.{machines_of}
use Rattle.zk_world.specs.Ready.{IsReady, all_left}
use Rattle.zk_world.specs.World.{world, is_spent}
use Rattle.zk_replay.specs.RoundRobin.{rounds}
use Rattle.zk_replay.specs.Turning.{IsAlone}
use Rattle.zk_replay.specs.LastTurns.{AreKept}
use Rattle.zk_replay.specs.Sleeping.{AreAsleep}
use Rattle.zk_replay.proofs.turns.play_rounds.Given as goal

abbrev pub invariant-loop-waiting : goal.invariant-loop-waiting
invariant-loop-waiting g l =
    let old = world (g.V.Services.shown l.initial.services) l.initial.players.items in
    let now = world (g.V.Services.shown l.services) l.players.items in
    record {
      alone : IsAlone l.scenario (g.V.Services.alone l.services) (g.V.Services.machines l.services) (g.V.Services.serves l.services);
      ready : IsReady l.scenario now;
      places : vec_len l.waiting ≡ vec_len l.players;
      kept : AreKept (machines_of l.scenario) l.scenario now l.waiting.items;
      asleep : AreAsleep (machines_of l.scenario) l.scenario now l.sleepers;
      unspent : is_spent l.scenario now ≡ false;
      so_far : (n : ℕ) × (now ≡ rounds (machines_of l.scenario) l.scenario n old);
    }

abbrev pub decreases-loop-waiting : goal.decreases-loop-waiting
decreases-loop-waiting g l = all_left l.scenario l.players.items
