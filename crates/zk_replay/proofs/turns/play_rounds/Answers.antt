use Rattle.std.proofs.Common.{suc}
use Rattle.zk_worker.specs.Machines.{machines_of}
use Rattle.zk_world.specs.World.{world}
use Rattle.zk_replay.specs.declared.turns.RoundEnd.TheVariants.{Goes, Spent}
use Rattle.zk_replay.proofs.Rounds.{rounded-at, rounds-next, over-spent}
use Rattle.zk_replay.proofs.turns.play_rounds.Goals as goal

pub loop-waiting-preserved : goal.loop-waiting-preserved
loop-waiting-preserved g c =
    let s = c.args.scenario.now in
    let m = machines_of s in
    let first = world (g.V.Services.shown c.args.services.now) c.args.players.now.items in
    let old = world (g.V.Services.shown c.loop-waiting.services) c.loop-waiting.players.items in
    let new = world (g.V.Services.shown c.play_round.new.services) c.play_round.new.players.items in
    let rounded = rounded-at m s old new c.in_ok-play_round.field-0 Goes
    c.in-Goes.is c.in_ok-play_round.ensures.rounded in
    let so_far = c.loop-waiting.invariant.so_far in
    record {
      alone = c.play_round.ensures.alone;
      ready = rounded.ready;
      unspent = rounded.goes.0;
      places = c.play_round.ensures.places;
      kept = c.in_ok-play_round.ensures.kept;
      asleep = c.in_ok-play_round.ensures.asleep;
      so_far = (suc so_far.0, rounds-next m s first old new so_far.0 so_far.1 rounded.next);
    }

pub returns-in-Spent-clause-rounds : goal.returns-in-Spent-clause-rounds
returns-in-Spent-clause-rounds g c =
    let s = c.args.scenario.now in
    let m = machines_of s in
    let first = world (g.V.Services.shown c.args.services.now) c.args.players.now.items in
    let old = world (g.V.Services.shown c.loop-waiting.services) c.loop-waiting.players.items in
    let new = world (g.V.Services.shown c.play_round.new.services) c.play_round.new.players.items in
    let rounded = rounded-at m s old new c.in_ok-play_round.field-0 Spent
    c.in-Spent.is c.in_ok-play_round.ensures.rounded in
    let so_far = c.loop-waiting.invariant.so_far in
    (suc so_far.0, rounds-next m s first old new so_far.0 so_far.1 rounded.next)

pub returns-in-Spent-clause-over : goal.returns-in-Spent-clause-over
returns-in-Spent-clause-over g c =
    let s = c.args.scenario.now in
    let m = machines_of s in
    let old = world (g.V.Services.shown c.loop-waiting.services) c.loop-waiting.players.items in
    let new = world (g.V.Services.shown c.play_round.new.services) c.play_round.new.players.items in
    over-spent m s old new
    (rounded-at m s old new c.in_ok-play_round.field-0 Spent
    c.in-Spent.is c.in_ok-play_round.ensures.rounded)
