use Rattle.std.proofs.Common.{List, sym, subst}
use Rattle.zk_model_work.specs.declared.parts.Queue.{Queue}
use Rattle.zk_model_work.specs.State.{IsCounted}
use Rattle.zk_model_work.proofs.Counts.{IsCounted-fresh, IsTimed-fresh}
use Rattle.zk_model_work.proofs.state.WorkState.new.Goals as goal

pub invariant_of-result : goal.invariant_of-result
invariant_of-result c =
    let P : List Queue → Type 0 = λ queues. IsCounted 0 queues in (
      subst P (sym c.in_ok-queues.ensures)
          (IsCounted-fresh c.args.workers.now c.args.started.now c.requires.same c.requires.queues),
      IsTimed-fresh,
    )
