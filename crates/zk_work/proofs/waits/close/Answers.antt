use Rattle.std.proofs.Common.{◌∙◌, sym}
use Rattle.zk_model_work.specs.Answers.{closes}
use Rattle.zk_work.specs.Engine.{has_come}
use Rattle.zk_work.proofs.Placed.{of-closes, left-one, left-all}
use Rattle.zk_work.proofs.waits.close.Goals as goal

pub returns-then-may_close-clause-waits : goal.returns-then-may_close-clause-waits
returns-then-may_close-clause-waits c =
    let come = has_come c.args.active.now.admissions c.args.queues.now c.args.closing in
    c.take_out.ensures.waits
    ∙ left-one c.args.place (closes come c.args.who c.args.place) (of-closes come c.args.who c.args.place) c.args.waits.now.waits
    c.in_order.ensures (sym c.may_close.ensures ∙ c.if-may_close.true)

pub returns-else-may_close-clause-waits : goal.returns-else-may_close-clause-waits
returns-else-may_close-clause-waits c =
    let come = has_come c.args.active.now.admissions c.args.queues.now c.args.closing in
    left-all c.args.place (closes come c.args.who c.args.place) (of-closes come c.args.who c.args.place) c.args.waits.now.waits
    (sym c.may_close.ensures ∙ c.if-may_close.false)
