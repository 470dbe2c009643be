use Rattle.std.proofs.Common.{nat_le, sym, ap, subst, ◌∙◌, Bool}
use Rattle.zk_scenario.specs.Steps.{steps_of}
use Rattle.zk_replay.specs.Turning.{made_step, IsTurn}
use Rattle.zk_replay.proofs.Choosing.{is-turn}
use Rattle.zk_replay.proofs.Rounds.{spent-still}
use Rattle.zk_replay.proofs.turns.play.Goals as goal

pub turn_of-requires : goal.turn_of-requires
turn_of-requires g c = λ rests.
    let m = g.V.Services.machines c.args.services.now in
    let s = c.args.scenario.now in
    let old = g.V.Services.shown c.args.services.now in
    let new = g.V.Services.shown c.step.new.services in
    let turn : IsTurn m s c.args.player.now c.step.new.self old new (made_step c.in_ok-stepped.stepped) =
    is-turn (g.V.Services.alone c.args.services.now) m s c.args.player.now c.step.new.self old new
    (g.V.Services.counts c.args.services.now) (g.V.Services.counts c.step.new.services) c.in_ok-stepped.stepped
    c.requires.alone.is_alone c.requires.unspent c.in_ok-stepped.ensures.does in
    ap (λ k. nat_le k c.steps.result) c.requires.most ∙ ap (nat_le (steps_of s)) c.steps.ensures.count
    ∙ spent-still m s c.args.player.now c.step.new.self old new (made_step c.in_ok-stepped.stepped) turn (sym c.made_step-moved.ensures ∙ rests) c.requires.unspent

pub returns-clause-turn : goal.returns-clause-turn
returns-clause-turn g c =
    let m = g.V.Services.machines c.args.services.now in
    let old = g.V.Services.shown c.args.services.now in
    let new = g.V.Services.shown c.step.new.services in
    subst (λ (moved : Bool). IsTurn m c.args.scenario.now c.args.player.now c.step.new.self old new moved)
    (sym (c.turn_of.ensures.moved ∙ c.made_step-moved.ensures))
    (is-turn (g.V.Services.alone c.args.services.now) m c.args.scenario.now c.args.player.now c.step.new.self old new
    (g.V.Services.counts c.args.services.now) (g.V.Services.counts c.step.new.services) c.in_ok-stepped.stepped
    c.requires.alone.is_alone c.requires.unspent c.in_ok-stepped.ensures.does)
