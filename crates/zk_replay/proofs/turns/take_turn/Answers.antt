use Rattle.std.proofs.Common.{◌≡◌, Bool, Some, length, set, refl, sym, subst, ◌∙◌, arith}
use Rattle.std.specs.List.{slice_get}
use Rattle.std.proofs.lemmas.Option.{slice_get_read}
use Rattle.zk_base.proofs.Lists.{All-at}
use Rattle.zk_worker.specs.Places.{PlayerPlace}
use Rattle.zk_worker.specs.Machines.{Machines, machines_of}
use Rattle.zk_worker.specs.Right.{LooksRight}
use Rattle.zk_worker.specs.Ranges.{IsFit}
use Rattle.zk_world.specs.World.{world}
use Rattle.zk_world.proofs.Readiness.{short-shown}
use Rattle.zk_replay.specs.LastTurns.{IsKept}
use Rattle.zk_replay.specs.Turning.{has_moved, IsTurn}
use Rattle.zk_replay.proofs.Asleep.{asleep-moved, asleep-stayed}
use Rattle.zk_replay.proofs.InVain.{kept-turned}
use Rattle.zk_replay.proofs.Rounds.{turned-with}
use Rattle.zk_replay.proofs.turns.take_turn.Goals as goal

pub play_or_pass-requires-clause-fits : goal.play_or_pass-requires-clause-fits
play_or_pass-requires-clause-fits g c =
    let players = c.args.players.now in
    let s = c.args.scenario.now in
    let P : PlayerPlace → Type 0 = IsFit s in
    let is : slice_get players.items c.args.number ≡ Some c.index_mut-player.result.now =
    slice_get_read players.items (length players.items) c.args.number c.index_mut-player.result.now refl (omega (arith, c.requires.number, players.ok.0)) c.index_mut-player.ensures.value in
    All-at P players.items c.args.number c.index_mut-player.result.now c.requires.ready.fits is

pub play_or_pass-requires-clause-log : goal.play_or_pass-requires-clause-log
play_or_pass-requires-clause-log g c =
    let players = c.args.players.now in
    let is : slice_get players.items c.args.number ≡ Some c.index_mut-player.result.now =
    slice_get_read players.items (length players.items) c.args.number c.index_mut-player.result.now refl (omega (arith, c.requires.number, players.ok.0)) c.index_mut-player.ensures.value in
    c.requires.ready.shows c.args.number c.index_mut-player.result.now is

pub play_or_pass-requires-clause-looks : goal.play_or_pass-requires-clause-looks
play_or_pass-requires-clause-looks g c =
    let players = c.args.players.now in
    let s = c.args.scenario.now in
    let shown = g.V.Services.shown c.args.services.now in
    let at = c.index_mut-player.result.now in
    let is : slice_get players.items c.args.number ≡ Some at =
    slice_get_read players.items (length players.items) c.args.number at refl (omega (arith, c.requires.number, players.ok.0)) c.index_mut-player.ensures.value in
    subst (λ (m : Machines). LooksRight m shown at.spots) (sym c.requires.alone.machines) (c.requires.ready.looks c.args.number at is)

pub play_or_pass-requires-clause-short : goal.play_or_pass-requires-clause-short
play_or_pass-requires-clause-short g c = short-shown c.args.scenario.now (world (g.V.Services.shown c.args.services.now) c.args.players.now.items) c.requires.ready

pub play_or_pass-requires-clause-kept : goal.play_or_pass-requires-clause-kept
play_or_pass-requires-clause-kept g c =
    let players = c.args.players.now in
    let waiting = c.args.waiting.now in
    let s = c.args.scenario.now in
    let shown = g.V.Services.shown c.args.services.now in
    let at = c.index_mut-player.result.now in
    let kept = c.index_mut-kept.result.now in
    let is : slice_get players.items c.args.number ≡ Some at = slice_get_read players.items (length players.items) c.args.number at refl (omega (arith, c.requires.number, players.ok.0)) c.index_mut-player.ensures.value in
    let of_it : slice_get waiting.items c.args.number ≡ Some kept =
    slice_get_read waiting.items (length waiting.items) c.args.number kept refl (omega (arith, c.requires.number, c.requires.places, players.ok.0, waiting.ok.0)) c.index_mut-kept.ensures.value in
    subst (λ (m : Machines). IsKept m s shown at kept) (sym c.requires.alone.machines) (c.requires.kept c.args.number at kept is of_it)

pub returns-then-has_moved-clause-turned : goal.returns-then-has_moved-clause-turned
returns-then-has_moved-clause-turned g c =
    let players = c.args.players.now in
    let at = c.index_mut-player.result.now in
    let is : slice_get players.items c.args.number ≡ Some at = slice_get_read players.items (length players.items) c.args.number at refl (omega (arith, c.requires.number, players.ok.0)) c.index_mut-player.ensures.value in
    turned-with (g.V.Services.machines c.args.services.now) c.args.scenario.now (g.V.Services.shown c.args.services.now) (g.V.Services.shown c.play_or_pass.new.services) players.items _ c.args.number at
    c.play_or_pass.new.player c.in_ok-turn.turn c.requires.alone.machines c.requires.ready c.requires.unspent is refl c.in_ok-turn.ensures.turn c.in_ok-turn.ensures.spent

pub returns-clause-turned : goal.returns-clause-turned
returns-clause-turned g c =
    let players = c.args.players.now in
    let at = c.index_mut-player.result.now in
    let is : slice_get players.items c.args.number ≡ Some at = slice_get_read players.items (length players.items) c.args.number at refl (omega (arith, c.requires.number, players.ok.0)) c.index_mut-player.ensures.value in
    turned-with (g.V.Services.machines c.args.services.now) c.args.scenario.now (g.V.Services.shown c.args.services.now) (g.V.Services.shown c.play_or_pass.new.services) players.items _ c.args.number at
    c.play_or_pass.new.player c.in_ok-turn.turn c.requires.alone.machines c.requires.ready c.requires.unspent is refl c.in_ok-turn.ensures.turn c.in_ok-turn.ensures.spent

pub returns-then-has_moved-clause-kept : goal.returns-then-has_moved-clause-kept
returns-then-has_moved-clause-kept g c =
    let s = c.args.scenario.now in
    let m = machines_of s in
    let players = c.args.players.now in
    let n = c.args.number in
    let old = g.V.Services.shown c.args.services.now in
    let new = g.V.Services.shown c.play_or_pass.new.services in
    let at = c.index_mut-player.result.now in
    let at' = c.play_or_pass.new.player in
    let turn : IsTurn m s at at' old new (has_moved c.in_ok-turn.turn) = subst (λ (x : Machines). IsTurn x s at at' old new (has_moved c.in_ok-turn.turn)) c.requires.alone.machines c.in_ok-turn.ensures.turn in
    let kept : IsKept m s new at' c.play_or_pass.new.kept = subst (λ (x : Machines). IsKept x s new at' c.play_or_pass.new.kept) c.requires.alone.machines c.in_ok-turn.ensures.kept in
    kept-turned m s old new players.items _ c.args.waiting.now.items _ n at at' c.play_or_pass.new.kept (has_moved c.in_ok-turn.turn) c.requires.kept turn refl refl kept

pub returns-clause-kept : goal.returns-clause-kept
returns-clause-kept g c =
    let s = c.args.scenario.now in
    let m = machines_of s in
    let players = c.args.players.now in
    let n = c.args.number in
    let old = g.V.Services.shown c.args.services.now in
    let new = g.V.Services.shown c.play_or_pass.new.services in
    let at = c.index_mut-player.result.now in
    let at' = c.play_or_pass.new.player in
    let turn : IsTurn m s at at' old new (has_moved c.in_ok-turn.turn) = subst (λ (x : Machines). IsTurn x s at at' old new (has_moved c.in_ok-turn.turn)) c.requires.alone.machines c.in_ok-turn.ensures.turn in
    let kept : IsKept m s new at' c.play_or_pass.new.kept = subst (λ (x : Machines). IsKept x s new at' c.play_or_pass.new.kept) c.requires.alone.machines c.in_ok-turn.ensures.kept in
    kept-turned m s old new players.items _ c.args.waiting.now.items _ n at at' c.play_or_pass.new.kept (has_moved c.in_ok-turn.turn) c.requires.kept turn refl refl kept

pub returns-then-has_moved-clause-asleep : goal.returns-then-has_moved-clause-asleep
returns-then-has_moved-clause-asleep g c =
    let s = c.args.scenario.now in
    let m = machines_of s in
    let players = c.args.players.now in
    let n = c.args.number in
    let old = g.V.Services.shown c.args.services.now in
    let new = g.V.Services.shown c.play_or_pass.new.services in
    let at = c.index_mut-player.result.now in
    let at' = c.play_or_pass.new.player in
    let turn : IsTurn m s at at' old new (has_moved c.in_ok-turn.turn) = subst (λ (x : Machines). IsTurn x s at at' old new (has_moved c.in_ok-turn.turn)) c.requires.alone.machines c.in_ok-turn.ensures.turn in
    let is : slice_get players.items n ≡ Some at = slice_get_read players.items (length players.items) n at refl (omega (arith, c.requires.number, players.ok.0)) c.index_mut-player.ensures.value in
    asleep-moved m s old new players.items (set players.items n at') c.args.sleepers.now c.wake.new.sleepers n at at' c.requires.asleep refl
    refl c.requires.ready.numbers is
    c.requires.awake (subst (λ (b : Bool). IsTurn m s at at' old new b) (sym c.has_moved.ensures ∙ c.if-has_moved.true) turn) c.wake.ensures

pub returns-clause-asleep : goal.returns-clause-asleep
returns-clause-asleep g c =
    let s = c.args.scenario.now in
    let m = machines_of s in
    let players = c.args.players.now in
    let n = c.args.number in
    let old = g.V.Services.shown c.args.services.now in
    let new = g.V.Services.shown c.play_or_pass.new.services in
    let at = c.index_mut-player.result.now in
    let at' = c.play_or_pass.new.player in
    let turn : IsTurn m s at at' old new (has_moved c.in_ok-turn.turn) = subst (λ (x : Machines). IsTurn x s at at' old new (has_moved c.in_ok-turn.turn)) c.requires.alone.machines c.in_ok-turn.ensures.turn in
    let kept : IsKept m s new at' c.play_or_pass.new.kept = subst (λ (x : Machines). IsKept x s new at' c.play_or_pass.new.kept) c.requires.alone.machines c.in_ok-turn.ensures.kept in
    asleep-stayed m s old new players.items (set players.items n at') c.args.sleepers.now c.fall_asleep.new.sleepers n at at' c.requires.asleep refl
    c.play_or_pass.new.kept (subst (λ (b : Bool). IsTurn m s at at' old new b) (sym c.has_moved.ensures ∙ c.if-has_moved.false) turn) kept c.fall_asleep.ensures
