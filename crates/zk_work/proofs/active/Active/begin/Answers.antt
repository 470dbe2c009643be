use Rattle.std.proofs.Common.{sym, ap, subst, ◌∙◌}
use Rattle.zk_queue.specs.Open.{Open, begin}
use Rattle.zk_work.specs.Active.{ActiveView, plain, flushing_in, AreMarked}
use Rattle.zk_work.proofs.Marked.{plain-begin, flushing-begin, marked-begin}
use Rattle.zk_work.proofs.active.Active.begin.Goals as goal

pub invariant_of-self : goal.invariant_of-self
invariant_of-self c =
    subst (λ (o : Open). AreMarked o c.self.inside.timeouts) (sym c.begin.ensures.next)
    (marked-begin c.self.inside.admissions c.self.inside.timeouts c.args.queue c.self.invariant)

pub returns-clause-admissions : goal.returns-clause-admissions
returns-clause-admissions c =
    ap plain c.begin.ensures.next ∙ plain-begin c.self.inside.admissions c.args.queue
    ∙ ap (λ (v : ActiveView). begin v.admissions c.args.queue) c.self.view_is

pub returns-clause-flushing : goal.returns-clause-flushing
returns-clause-flushing c =
    ap flushing_in c.begin.ensures.next ∙ flushing-begin c.self.inside.admissions c.args.queue
    ∙ ap (λ (v : ActiveView). v.flushing) c.self.view_is
