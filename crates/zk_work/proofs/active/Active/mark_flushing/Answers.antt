use Rattle.std.proofs.Common.{◌-◌, ◌^◌, if◌then◌else◌, sym, ap, subst, ◌∙◌, set, arith}
use Rattle.std.specs.Int.RustNames.{bit_and, bit_or}
use Rattle.zk_queue.specs.Open.{Open}
use Rattle.zk_work.specs.Active.{ActiveView, plain, flushing_in, AreMarked}
use Rattle.zk_work.proofs.Marked.{flushed-plain, flushed-marked, flushed-flushing}
use Rattle.zk_work.proofs.active.Active.mark_flushing.Goals as goal

pub invariant_of-self : goal.invariant_of-self
invariant_of-self c =
    let o = c.self.inside.admissions in
    let b = c.args.flushing in
    let items = ap (λ (v : ActiveView). v.admissions.items) c.self.view_is in
    let word = c.set.ensures tt ∙ ap (λ n. if b then bit_or n 16 else bit_and n (2 ^ 8 - 1 - 16)) c.flags-word.ensures in
    subst (λ (o : Open). AreMarked o c.self.inside.timeouts) (sym c.mark.ensures)
    (flushed-marked o c.args.item c.set.new.self.0 b word c.self.inside.timeouts c.self.invariant (omega arith))

pub returns-clause-admissions : goal.returns-clause-admissions
returns-clause-admissions c =
    let b = c.args.flushing in
    let word = c.set.ensures tt ∙ ap (λ n. if b then bit_or n 16 else bit_and n (2 ^ 8 - 1 - 16)) c.flags-word.ensures in
    ap plain c.mark.ensures ∙ flushed-plain c.self.inside.admissions c.args.item c.set.new.self.0 b word
    ∙ ap (λ (v : ActiveView). v.admissions) c.self.view_is

pub returns-clause-flushing : goal.returns-clause-flushing
returns-clause-flushing c =
    let b = c.args.flushing in
    let word = c.set.ensures tt ∙ ap (λ n. if b then bit_or n 16 else bit_and n (2 ^ 8 - 1 - 16)) c.flags-word.ensures in
    ap flushing_in c.mark.ensures ∙ flushed-flushing c.self.inside.admissions c.args.item c.set.new.self.0 b word
    ∙ ap (λ (v : ActiveView). set v.flushing c.args.item b) c.self.view_is
