use Rattle.std.proofs.Common.{◌≡◌, length, ◌∙◌, ap, sym, arith}
use Rattle.zk_model_work.specs.declared.parts.Item.{Item}
use Rattle.zk_model_work.specs.Answers.{admitted_to}
use Rattle.zk_model_work.proofs.Overlaps.{submission-admits, submission-within}
use Rattle.zk_work.specs.EngineState.{EngineView}
use Rattle.zk_work.proofs.engine.WorkEngine.answer.Goals as goal

pub returns-clause-admits : goal.returns-clause-admits
returns-clause-admits c = λ queue is.
    let queues = c.deref.result.now in
    let same : length queues ≡ length c.args.self.now.state.queues =
    ap length (c.deref.ensures.value ∙ ap (λ (h : EngineView). h.state.queues) c.self.view_is) in
    let i = c.item.result in
    let said = sym (ap admitted_to c.submission.ensures) ∙ is in
    let all = c.requires.whole.queues in
    let within = submission-within i queues c.args.caller c.args.named queue said in
    let admits = submission-admits i queues c.args.caller c.args.named queue said in
    record { within = omega arith; free = sym (ap (λ (i : Item). i.queued) c.item.ensures) ∙ admits.not_waiting }
