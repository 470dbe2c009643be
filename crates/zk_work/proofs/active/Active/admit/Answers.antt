use Rattle.std.proofs.Common.{refl, sym, ap, subst, ◌∙◌}
use Rattle.zk_queue.specs.Open.{Open, admit}
use Rattle.zk_work.specs.Active.{ActiveView, plain, flushing_in, AreMarked}
use Rattle.zk_work.proofs.Marked.{marked-alike}
use Rattle.zk_work.proofs.active.Active.admit.Goals as goal

pub invariant_of-self : goal.invariant_of-self
invariant_of-self c =
    let o = c.self.inside.admissions in
    subst (λ (o : Open). AreMarked o c.self.inside.timeouts) (sym c.admit.ensures)
    (marked-alike o (admit o c.args.item c.args.queue c.args.number) c.self.inside.timeouts c.self.invariant refl refl)

pub returns-clause-admissions : goal.returns-clause-admissions
returns-clause-admissions c =
    ap plain c.admit.ensures
    ∙ ap (λ (v : ActiveView). admit v.admissions c.args.item c.args.queue c.args.number) c.self.view_is

pub returns-clause-flushing : goal.returns-clause-flushing
returns-clause-flushing c = ap flushing_in c.admit.ensures ∙ ap (λ (v : ActiveView). v.flushing) c.self.view_is
