use Rattle.std.proofs.Common.{Option, is_some, cond, ap, sym, ◌∙◌}
use Rattle.std.proofs.lemmas.Result.{IfOk-weaker}
use Rattle.zk_model_work.specs.declared.ops.WorkReply.{WorkReply}
use Rattle.zk_model_work.specs.State.{State}
use Rattle.zk_model_work.proofs.Delays.{schedule-free}
use Rattle.zk_model_work.proofs.state.WorkState.schedule.Goals as goal

pub returns-clause-next : goal.returns-clause-next
returns-clause-next c =
    let s = c.args.self.now in
    let free = schedule-free s c.args.who c.args.item c.args.queue c.args.delay (sym c.is_pending.ensures
    ∙ c.if-is_pending.false) in
    IfOk-weaker c.reschedule.result _ _
    (λ (reply : Option WorkReply) next. next ∙ sym (ap (λ (t : State). cond (is_some reply) t s) free)) c.reschedule.ensures.next
