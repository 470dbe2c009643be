use Rattle.std.proofs.Common.{ltb, sym, ◌∙◌}
use Rattle.zk_base.specs.declared.leaders.First.{First}
use Rattle.zk_base.proofs.Firsts.{first-place, no-place}
use Rattle.zk_base.proofs.leaders.place_above.Goals as goal

pub returns-in-Some-clause-place : goal.returns-in-Some-clause-place
returns-in-Some-clause-place c =
    first-place (λ (f : First). ltb c.args.rank f.rank) c.args.firsts.now c.in-Some.at (sym c.first_above.ensures ∙ c.in-Some.is)

pub returns-in-None-clause-place : goal.returns-in-None-clause-place
returns-in-None-clause-place c =
    no-place (λ (f : First). ltb c.args.rank f.rank) c.args.firsts.now (sym c.first_above.ensures ∙ c.in-None.is)
