use Rattle.std.proofs.Common.{sym, ap, subst, ◌∙◌, arith}
use Rattle.std.specs.Int.RustNames.{bit_or}
use Rattle.zk_queue.specs.Open.{Open, mark}
use Rattle.zk_work.specs.Active.{ActiveView, plain, flushing_in, AreMarked}
use Rattle.zk_work.proofs.Marked.{armed-marked, armed-plain, armed-flushing}
use Rattle.zk_work.proofs.active.Active.arm.Goals as goal

pub invariant_of-self : goal.invariant_of-self
invariant_of-self c =
    let o = c.self.inside.admissions in
    let items = ap (λ (v : ActiveView). v.admissions.items) c.self.view_is in
    let word = c.union.ensures tt ∙ ap (λ n. bit_or n 8) c.flags-word.ensures in
    subst (λ (o : Open). AreMarked o c.arm.new.self) (sym c.mark.ensures)
    (subst (AreMarked (mark o c.args.item c.union.result.0)) (sym c.arm.ensures.next)
    (armed-marked o c.self.inside.timeouts c.args.item c.args.queue c.args.deadline c.union.result.0 c.self.invariant (omega arith) word))

pub returns-clause-admissions : goal.returns-clause-admissions
returns-clause-admissions c =
    let o = c.self.inside.admissions in
    let word = c.union.ensures tt ∙ ap (λ n. bit_or n 8) c.flags-word.ensures in
    ap plain c.mark.ensures ∙ armed-plain o c.args.item c.union.result.0 word ∙ ap (λ (v : ActiveView). v.admissions) c.self.view_is

pub returns-clause-flushing : goal.returns-clause-flushing
returns-clause-flushing c =
    let o = c.self.inside.admissions in
    let word = c.union.ensures tt ∙ ap (λ n. bit_or n 8) c.flags-word.ensures in
    ap flushing_in c.mark.ensures ∙ armed-flushing o c.args.item c.union.result.0 word ∙ ap (λ (v : ActiveView). v.flushing) c.self.view_is
