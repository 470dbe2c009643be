use Rattle.std.proofs.Common.{◌≡◌, length, ap, subst, sym, ◌∙◌, arith}
use Rattle.zk_model_work.specs.declared.parts.Change.TheVariants as changes
use Rattle.zk_model_work.specs.State.{State, IsCounted}
use Rattle.zk_model_work.specs.Machine.{change}
use Rattle.zk_model_work.proofs.Counts.{IsCounted-change, IsCounted-written, length-change, IsTimed-more}
use Rattle.zk_model_work.proofs.state.WorkState.start.Goals as goal

pub invariant_of-self : goal.invariant_of-self
invariant_of-self c =
    let inside = c.self.inside in
    let count : inside.entries ≡ c.args.self.now.entries = ap (λ (s : State). s.entries) c.self.view_is in
    let changed = c.change.ensures ∙ ap (λ qs. change changes.Start qs c.args.queue) c.deref_mut.ensures.value in (
      IsCounted-written inside.entries inside.queues.len inside.queues.items c.change.new.queues
          (subst (IsCounted inside.entries) (sym changed)
          (IsCounted-change changes.Start inside.entries c.args.queue inside.queues.items c.self.invariant.0))
          (omega arith) inside.queues.ok.0 (ap length changed ∙ length-change changes.Start inside.queues.items c.args.queue),
      IsTimed-more inside.time inside.entries c.self.invariant.1,
    )
