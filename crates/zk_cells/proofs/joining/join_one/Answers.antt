use Rattle.std.proofs.Common.{◌++◌, sym, subst}
use Rattle.zk_base.specs.Legal.{IsLegal}
use Rattle.zk_cells.specs.Joined.{StandsIn}
use Rattle.zk_cells.proofs.joining.join_one.Goals as goal

pub returns-in-Some-clause-players : goal.returns-in-Some-clause-players
returns-in-Some-clause-players g c = λ ws us a b.
    let legal = IsLegal g.S.Service.machine in
    let start = g.S.Service.start in
    subst (λ o. StandsIn legal start (ws ++ us) o c.join_two.new.into) (sym c.in-Some.is)
    (c.join_two.ensures.players ws us (subst (λ o. StandsIn legal start ws o c.args.into.now) c.in-Some.is a) (subst (λ o. StandsIn legal start us o c.args.other) c.in-Some.is b))
