use Rattle.std.proofs.Common.{None, cond, refl, sym, ap, ◌∙◌}
use Rattle.std.proofs.lemmas.Fn.{says_at}
use Rattle.zk_base.proofs.slots.answer_by.Goals as goal

pub returns-then-not-is_waiting-clause-answer : goal.returns-then-not-is_waiting-clause-answer
returns-then-not-is_waiting-clause-answer g c = λ says answers.
    ap (λ b. cond b (says c.args.slot.now.waiter.payload) None) (sym (sym c.is_waiting.ensures ∙ c.if-not-is_waiting.true))

pub returns-clause-answer : goal.returns-clause-answer
returns-clause-answer g c = λ says answers.
    let payload = c.args.slot.now.waiter.payload in
    answers payload c.test.result (says_at g.F.Fn c.test.ensures refl)
    ∙ ap (λ b. cond b (says payload) None) (sym (sym c.is_waiting.ensures ∙ c.if-not-is_waiting.false))
