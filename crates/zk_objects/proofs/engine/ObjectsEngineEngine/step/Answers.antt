use Rattle.std.proofs.Common.{Bool, List, refl, sym, ap, subst, ◌∙◌}
use Rattle.zk_model_bus.specs.Table.{is_for}
use Rattle.zk_objects.specs.declared.object.Object.{Object}
use Rattle.zk_objects.specs.Kept.{AreChanged, target_of}
use Rattle.zk_objects.proofs.Standing.{reply-so, range-same, stands-next}
use Rattle.zk_objects.proofs.engine.ObjectsEngineEngine.step.Goals as goal

pub returns-clause-step : goal.returns-clause-step
returns-clause-step c = λ s stands.
    let old = c.args.self.now in
    let objects = old.objects.items in
    let who = c.args.who in
    let op = c.args.op.now in
    let ready = c.requires.ready in
    let range = range-same s ready.0 objects old.users old.dead op stands ready.1 ∙ ready.2 in
    let alive = sym c.has.ensures ∙ c.if-has.false in
    let mode = ap (λ (user : Bool). is_for user op) (sym c.has-else-has.ensures) ∙ sym c.is_for.ensures ∙ c.if-not-is_for.false in
    let marks = c.in_ok-reply.ensures in
    let made = subst (λ (os : List Object). AreChanged (target_of os who.number op) op os c.change.new.objects.items)
    marks.objects c.change.ensures in
    let next = stands-next s objects c.change.new.objects.items old.users old.dead c.mark.new.self.users c.mark.new.self.dead who
    op stands range made marks.users marks.dead in (
      reply-so s objects old.users old.dead who op c.in_ok-reply.reply stands range alive mode marks.reply,
      refl,
      next,
    )
