use Rattle.std.proofs.Common.{ap, subst, sym, ◌∙◌}
use Rattle.zk_queue.specs.Open.{Open, nothing_open}
use Rattle.zk_work.specs.Active.{plain, flushing_in, AreMarked}
use Rattle.zk_work.proofs.Marked.{marked-fresh, plain-fresh, flushing-fresh}
use Rattle.zk_work.proofs.active.Active.new.Goals as goal

pub invariant_of-result : goal.invariant_of-result
invariant_of-result c =
    subst (λ (o : Open). AreMarked o c.in_ok-timeouts.timeouts) (sym c.in_ok-admissions.ensures)
    (subst (AreMarked (nothing_open c.args.items c.args.queues)) (sym c.in_ok-timeouts.ensures.made) (marked-fresh c.args.items c.args.queues))

pub returns-clause-admissions : goal.returns-clause-admissions
returns-clause-admissions c = ap plain c.in_ok-admissions.ensures ∙ plain-fresh c.args.items c.args.queues

pub returns-clause-flushing : goal.returns-clause-flushing
returns-clause-flushing c = ap flushing_in c.in_ok-admissions.ensures ∙ flushing-fresh c.args.items c.args.queues
