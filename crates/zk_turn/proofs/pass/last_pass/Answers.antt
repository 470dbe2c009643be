use Rattle.std.proofs.Common.{◌-◌, take, ap, [], ◌∷◌, ◌++◌, subst, ◌∙◌}
use Rattle.zk_base.specs.Legal.{IsLegal}
use Rattle.zk_turn.specs.Passes.{AreNewPasses}
use Rattle.zk_turn.proofs.Dealing.{AreNewPasses-some, AreNewPasses-pop}
use Rattle.zk_turn.proofs.pass.last_pass.Goals as goal

pub unreachable-requires : goal.unreachable-requires
unreachable-requires g c =
    let legal = IsLegal g.S.Service.machine in
    let start = g.S.Service.start in
    let cell = c.args.cell.now in
    let gone = c.in_default.ensures in
    let none = gone.items ∙ ap (λ l. l ++ []) (gone.rest ∙ ap (λ n. take (n - 1) c.args.passes.now.items) gone.cases.0) in
    AreNewPasses-some legal start cell c.requires.0 c.args.who
    (subst (λ ps. AreNewPasses legal start cell (c.requires.0 ++ c.args.who ∷ []) ps) none c.requires.1)

pub returns-clause-pass : goal.returns-clause-pass
returns-clause-pass g c =
    let legal = IsLegal g.S.Service.machine in
    let start = g.S.Service.start in
    let cell = c.args.cell.now in
    let ws = c.requires.0 in
    (AreNewPasses-pop legal start cell ws c.pop.new.self.items c.args.who c.in-Some.pass
    (subst (λ ps. AreNewPasses legal start cell (ws ++ c.args.who ∷ []) ps) c.in-Some.ensures.items c.requires.1)).1

pub returns-clause-others : goal.returns-clause-others
returns-clause-others g c ws all =
    let legal = IsLegal g.S.Service.machine in
    let start = g.S.Service.start in
    let cell = c.args.cell.now in
    (AreNewPasses-pop legal start cell ws c.pop.new.self.items c.args.who c.in-Some.pass
    (subst (λ ps. AreNewPasses legal start cell (ws ++ c.args.who ∷ []) ps) c.in-Some.ensures.items all)).0
