use Rattle.std.proofs.Common.{refl, sym, subst, rules}
use Rattle.zk_worker.specs.Places.{PlayerPlace}
use Rattle.zk_worker.specs.Follows.{IsFollowing}
use Rattle.zk_worker.specs.Ranges.{IsFit}
use Rattle.zk_worker.proofs.FitsStill.{after-fits}
use Rattle.zk_worker.proofs.Looking.{looks-stepped}
use Rattle.zk_worker.proofs.Following.{following-more}
use Rattle.zk_worker.proofs.player.Player.made.Goals as goal

-- a check

pub returns-in-Some-clause-next : goal.returns-in-Some-clause-next
returns-in-Some-clause-next c = search rules

pub returns-in-Some-clause-fits : goal.returns-in-Some-clause-fits
returns-in-Some-clause-fits c =
    λ valid fits told passes. subst (λ (at : PlayerPlace). IsFit c.args.scenario.now at) (sym (returns-in-Some-clause-next c))
    (after-fits c.args.scenario.now c.args.self.now c.args.step.now c.args.reply.now valid fits c.requires.ahead told passes)

pub returns-in-Some-clause-follows : goal.returns-in-Some-clause-follows
returns-in-Some-clause-follows c =
    λ number old new more is. subst (λ (x : PlayerPlace). IsFollowing c.args.scenario.now number new x) (sym (returns-in-Some-clause-next c))
    (following-more c.args.scenario.now number old new c.args.self.now c.args.step.now c.args.reply.now more c.requires.ahead is)

pub returns-in-Some-clause-looks : goal.returns-in-Some-clause-looks
returns-in-Some-clause-looks c = λ alone m old new shows made right.
    looks-stepped alone m m c.args.scenario.now c.args.self.now _ c.args.step.now c.args.reply.now old new refl shows right made
    (returns-in-Some-clause-next c)

-- a step of the innermost open script or run

pub returns-in-None-clause-next : goal.returns-in-None-clause-next
returns-in-None-clause-next c = search rules

pub returns-in-None-clause-fits : goal.returns-in-None-clause-fits
returns-in-None-clause-fits c =
    λ valid fits told passes. subst (λ (at : PlayerPlace). IsFit c.args.scenario.now at) (sym (returns-in-None-clause-next c))
    (after-fits c.args.scenario.now c.args.self.now c.args.step.now c.args.reply.now valid fits c.requires.ahead told passes)

pub returns-in-None-clause-follows : goal.returns-in-None-clause-follows
returns-in-None-clause-follows c =
    λ number old new more is. subst (λ (x : PlayerPlace). IsFollowing c.args.scenario.now number new x) (sym (returns-in-None-clause-next c))
    (following-more c.args.scenario.now number old new c.args.self.now c.args.step.now c.args.reply.now more c.requires.ahead is)

pub returns-in-None-clause-looks : goal.returns-in-None-clause-looks
returns-in-None-clause-looks c = λ alone m old new shows made right.
    looks-stepped alone m m c.args.scenario.now c.args.self.now _ c.args.step.now c.args.reply.now old new refl shows right made
    (returns-in-None-clause-next c)
