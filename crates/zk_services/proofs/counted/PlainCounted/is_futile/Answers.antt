use Rattle.std.proofs.Common.{ap, ◌∙◌}
use Rattle.zk_worker.specs.declared.steps.StepReply.TheVariants as step_replies
use Rattle.zk_worker.specs.Attempt.{reply_in}
use Rattle.zk_services.specs.Alone.{plain_machines, plain_shown}
use Rattle.zk_services.proofs.counted.PlainCounted.is_futile.Goals as goal

pub returns-in-Sem : goal.returns-in-Sem
returns-in-Sem c = λ futile.
    ap (reply_in (plain_machines c.args.self.now) (plain_shown c.args.self.now) c.args.who) c.in-Sem.is
    ∙ c.is_futile_at.ensures futile step_replies.Sem

pub returns-in-Msgq : goal.returns-in-Msgq
returns-in-Msgq c = λ futile.
    ap (reply_in (plain_machines c.args.self.now) (plain_shown c.args.self.now) c.args.who) c.in-Msgq.is
    ∙ c.is_futile_at-in-Msgq.ensures futile step_replies.Msgq

pub returns-in-Chan : goal.returns-in-Chan
returns-in-Chan c = λ futile.
    ap (reply_in (plain_machines c.args.self.now) (plain_shown c.args.self.now) c.args.who) c.in-Chan.is
    ∙ c.is_futile_at-in-Chan.ensures futile step_replies.Chan

pub returns-in-Obs : goal.returns-in-Obs
returns-in-Obs c = λ futile.
    ap (reply_in (plain_machines c.args.self.now) (plain_shown c.args.self.now) c.args.who) c.in-Obs.is
    ∙ c.is_futile_at-in-Obs.ensures futile step_replies.Obs
