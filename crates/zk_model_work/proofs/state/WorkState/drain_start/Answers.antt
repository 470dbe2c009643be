use Rattle.std.proofs.Common.{◌≡◌, length, ap, subst, sym, ◌∙◌, arith}
use Rattle.zk_model_work.specs.State.{State, IsCounted}
use Rattle.zk_model_work.specs.Machine.{drain}
use Rattle.zk_model_work.proofs.Counts.{IsCounted-drain, IsCounted-written, length-drain, IsTimed-more}
use Rattle.zk_model_work.proofs.state.WorkState.drain_start.Goals as goal

pub invariant_of-self-2 : goal.invariant_of-self-2
invariant_of-self-2 c =
    let inside = c.self.inside in
    let idle = c.is_empty_and_idle-idle.result in
    let count : inside.entries ≡ c.args.self.now.entries = ap (λ (s : State). s.entries) c.self.view_is in
    let drained = c.drain.ensures ∙ ap (λ qs. drain idle c.args.plug qs c.args.queue) c.deref_mut.ensures.value in (
      IsCounted-written inside.entries inside.queues.len inside.queues.items c.drain.new.queues
          (subst (IsCounted inside.entries) (sym drained)
          (IsCounted-drain idle c.args.plug inside.entries c.args.queue inside.queues.items c.self.invariant.0))
          (omega arith) inside.queues.ok.0 (ap length drained ∙ length-drain idle c.args.plug inside.queues.items c.args.queue),
      IsTimed-more inside.time inside.entries c.self.invariant.1,
    )
