use Rattle.std.proofs.Common.{◌≡◌, ap, ◌∙◌, arith}
use Rattle.zk_model_work.specs.State.{State}
use Rattle.zk_model_work.specs.Questions.{is_empty_and_idle}
use Rattle.zk_model_work.specs.Machine.{settle}
use Rattle.zk_model_work.proofs.Counts.{IsCounted-settle, IsTimed-more}
use Rattle.zk_model_work.proofs.state.WorkState.end.Goals as goal

pub invariant_of-self : goal.invariant_of-self
invariant_of-self c =
    let inside = c.self.inside in
    let admissions = c.deref-3.result.now in
    let count : inside.entries ≡ c.args.self.now.entries = ap (λ (s : State). s.entries) c.self.view_is in
    let settled = c.settle.ensures ∙ ap (settle admissions) c.deref_mut-2.ensures.value in (
      IsCounted-settle inside.entries inside.queues.len (is_empty_and_idle admissions) inside.queues.items
          c.settle.new.queues c.self.invariant.0 (omega arith) inside.queues.ok.0 settled,
      IsTimed-more inside.time inside.entries c.self.invariant.1,
    )
