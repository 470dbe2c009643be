use Rattle.std.proofs.Common.{◌≡◌, length, ap, subst, sym, ◌∙◌, arith}
use Rattle.zk_model_work.specs.State.{State, IsCounted}
use Rattle.zk_model_work.specs.Machine.{stop}
use Rattle.zk_model_work.proofs.Counts.{IsCounted-stop, IsCounted-written, length-stop, IsTimed-more}
use Rattle.zk_model_work.proofs.state.WorkState.stop.Goals as goal

pub invariant_of-self : goal.invariant_of-self
invariant_of-self c =
    let inside = c.self.inside in
    let idle = c.is_empty_and_idle-idle.result in
    let count : inside.entries ≡ c.args.self.now.entries = ap (λ (s : State). s.entries) c.self.view_is in
    let stopped = c.stop.ensures ∙ ap (λ qs. stop idle qs c.args.queue) c.deref_mut.ensures.value in (
      IsCounted-written inside.entries inside.queues.len inside.queues.items c.stop.new.queues
          (subst (IsCounted inside.entries) (sym stopped)
          (IsCounted-stop idle inside.entries c.args.queue inside.queues.items c.self.invariant.0))
          (omega arith) inside.queues.ok.0 (ap length stopped ∙ length-stop idle inside.queues.items c.args.queue),
      IsTimed-more inside.time inside.entries c.self.invariant.1,
    )
