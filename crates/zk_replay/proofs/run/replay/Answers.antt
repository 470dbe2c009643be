use Rattle.std.proofs.Common.{◌≡◌, false, refl, ap, List, sym, subst, ◌∙◌}
use Rattle.std.proofs.lemmas.Result.{IfOk-weaker}
use Rattle.zk_worker.specs.Places.{PlayerPlace}
use Rattle.zk_trace.specs.Lawful.{IsLawful}
use Rattle.zk_services.specs.Alone.{plain_shown}
use Rattle.zk_world.specs.Ready.{IsReady}
use Rattle.zk_world.specs.Over.{IsOver}
use Rattle.zk_world.specs.Traces.{ending_at, world_trace}
use Rattle.zk_world.specs.World.{World, world, is_spent}
use Rattle.zk_world.proofs.Beginning.{ready-first, world-first}
use Rattle.zk_replay.specs.Replay.{IsReplay}
use Rattle.zk_replay.proofs.Runs.{unspent-first, run-sound, run-from, replayed, lawful, over}
use Rattle.zk_replay.proofs.run.replay.Goals as goal

pub play_rounds-requires-clause-alone : goal.play_rounds-requires-clause-alone
play_rounds-requires-clause-alone c = record { is_alone = refl; machines = c.in_ok-services.ensures.machines; serves_all = λ who. tt }

pub play_rounds-requires-clause-ready : goal.play_rounds-requires-clause-ready
play_rounds-requires-clause-ready c =
    let s = c.args.scenario.now in
    subst (λ (w : World). IsReady s w)
    (sym (world-first s (plain_shown c.in_ok-services.services) c.in_ok-players.players.items c.in_ok-services.ensures.shown c.in_ok-players.ensures))
    (ready-first s c.first_services.ensures.valid)

pub play_rounds-requires-clause-unspent : goal.play_rounds-requires-clause-unspent
play_rounds-requires-clause-unspent c =
    let s = c.args.scenario.now in
    subst (λ (w : World). is_spent s w ≡ false)
    (sym (world-first s (plain_shown c.in_ok-services.services) c.in_ok-players.players.items c.in_ok-services.ensures.shown c.in_ok-players.ensures))
    (unspent-first s)

pub trace_of-requires : goal.trace_of-requires
trace_of-requires c =
    let s = c.args.scenario.now in
    let old = world (plain_shown c.in_ok-services.services) c.in_ok-players.players.items in
    let new = world (plain_shown c.play_rounds.new.services) c.play_rounds.new.players.items in
    let so_far = c.in_ok-play_rounds.ensures.rounds in
    record {
      sound = run-sound s new c.first_services.ensures.valid
          (run-from s old new so_far.0
          (world-first s (plain_shown c.in_ok-services.services) c.in_ok-players.players.items c.in_ok-services.ensures.shown c.in_ok-players.ensures)
          so_far.1 c.in_ok-play_rounds.ensures.over);
    }

pub returns-clause-replay : goal.returns-clause-replay
returns-clause-replay c =
    let s = c.args.scenario.now in
    let services = c.play_rounds.new.services in
    let old = world (plain_shown c.in_ok-services.services) c.in_ok-players.players.items in
    let new = world (plain_shown services) c.play_rounds.new.players.items in
    let so_far = c.in_ok-play_rounds.ensures.rounds in
    let run =
    run-from s old new so_far.0
    (world-first s (plain_shown c.in_ok-services.services) c.in_ok-players.players.items c.in_ok-services.ensures.shown c.in_ok-players.ensures)
    so_far.1 c.in_ok-play_rounds.ensures.over in
    let ending = c.ending_of-ending.ensures ∙ ap (λ (l : List PlayerPlace). ending_at s (world (plain_shown services) l)) c.deref.ensures.value in
    IfOk-weaker c.trace_of.result (λ t. t ≡ world_trace s c.ending_of-ending.result new) (IsReplay s)
    (λ t same. replayed s new c.ending_of-ending.result t run ending same) c.trace_of.ensures.trace

pub returns-clause-lawful : goal.returns-clause-lawful
returns-clause-lawful c =
    let s = c.args.scenario.now in
    IfOk-weaker c.trace_of.result (IsReplay s) (λ t. IsLawful s t) (λ t run. lawful s t c.first_services.ensures.valid run) (returns-clause-replay c)

pub returns-clause-over : goal.returns-clause-over
returns-clause-over c =
    let s = c.args.scenario.now in
    IfOk-weaker c.trace_of.result (IsReplay s) (IsOver s) (λ t run. over s t c.first_services.ensures.valid run) (returns-clause-replay c)
