use Rattle.std.proofs.Common.{ℕ, Option, Some, None, is_some, sym, ap, ◌∙◌}
use Rattle.zk_worker.proofs.PollSteps.{asks-on}
use Rattle.zk_worker.proofs.polls.asks_on.Goals as goal

pub returns-in-Some : goal.returns-in-Some
returns-in-Some c = λ alarm made mark asked.
    c.is_some.ensures ∙ ap (λ (o : Option ℕ). is_some o) c.unasked_from.ensures ∙ sym (asks-on c.args.events.now alarm c.args.marks.now made mark asked (Some c.in-Some.place) (sym c.in-Some.is ∙ c.requires.first))

pub returns-in-None : goal.returns-in-None
returns-in-None c = λ alarm made mark asked.
    sym (asks-on c.args.events.now alarm c.args.marks.now made mark asked None (sym c.in-None.is ∙ c.requires.first))
