use Rattle.std.proofs.Common.{◌≡◌, Bool, true, sym, subst}
use Rattle.zk_base.specs.declared.ids.Who.{Who}
use Rattle.zk_replay.specs.LastTurns.{AreFutile}
use Rattle.zk_replay.specs.Turning.{IsTurn}
use Rattle.zk_replay.proofs.InVain.{passed, asked-still, kept-turn}
use Rattle.zk_replay.proofs.turns.play_or_pass.Goals as goal

pub returns-then-is_in_vain-clause-turn : goal.returns-then-is_in_vain-clause-turn
returns-then-is_in_vain-clause-turn g c =
    passed (g.V.Services.machines c.args.services.now) c.args.scenario.now (g.V.Services.shown c.args.services.now) c.args.player.now c.args.kept.now c.requires.kept
    (subst (λ (who : Who). (c.args.kept.now.waits ≡ true)
    × AreFutile (g.V.Services.machines c.args.services.now) (g.V.Services.shown c.args.services.now) who c.args.kept.now.asked.items)
    c.who.ensures (c.is_in_vain.ensures c.if-is_in_vain.true))

pub keep-requires : goal.keep-requires
keep-requires g c =
    let m = g.V.Services.machines c.args.services.now in
    let s = c.args.scenario.now in
    let old = g.V.Services.shown c.args.services.now in
    let new = g.V.Services.shown c.play.new.services in
    let turn = subst (λ (moved : Bool). IsTurn m s c.args.player.now c.play.new.player old new moved) (sym c.has_moved.ensures) c.in_ok-turn.ensures.turn in
    record {
      again = asked-still m s old c.args.player.now c.play.new.player old new c.has_moved.result c.args.kept.now c.requires.kept turn;
    }

pub returns-clause-kept : goal.returns-clause-kept
returns-clause-kept g c =
    let m = g.V.Services.machines c.args.services.now in
    let s = c.args.scenario.now in
    let old = g.V.Services.shown c.args.services.now in
    let new = g.V.Services.shown c.play.new.services in
    let turn = subst (λ (moved : Bool). IsTurn m s c.args.player.now c.play.new.player old new moved) (sym c.has_moved.ensures) c.in_ok-turn.ensures.turn in
    kept-turn m s c.args.player.now c.play.new.player old new c.has_moved.result c.keep.new.kept turn c.in_ok-keep.ensures.moved c.in_ok-keep.ensures.asked
