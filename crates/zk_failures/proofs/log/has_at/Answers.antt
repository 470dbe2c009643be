use Rattle.std.proofs.Common.{Some, sym, ap, ◌∙◌}
use Rattle.std.proofs.lemmas.Option.{same_Some, none-some}
use Rattle.zk_worker.specs.declared.answers.Answered.{Answered}
use Rattle.zk_failures.proofs.log.has_at.Goals as goal

pub returns-in-Some : goal.returns-in-Some
returns-in-Some c =
    let there = sym c.answered.ensures ∙ c.in-Some.is in
    let same = c.is_same_answer.ensures in
    (λ is. there ∙ ap (λ (a : Answered). Some a) (same.0 is), λ has. same.1 (same_Some c.in-Some.own c.args.answer.now (sym there ∙ has)))

pub returns-in-None : goal.returns-in-None
returns-in-None c =
    (λ is. absurd (cc), λ has. absurd (none-some c.args.answer.now (sym (sym c.answered.ensures ∙ c.in-None.is) ∙ has)))
