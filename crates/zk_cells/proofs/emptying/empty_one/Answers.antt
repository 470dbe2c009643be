use Rattle.std.proofs.Common.{◌≡◌, true, All, sym, subst, ◌∙◌}
use Rattle.zk_base.specs.Legal.{IsLegal}
use Rattle.zk_turn.specs.Passes.{pass_players, pass_seen}
use Rattle.zk_turn.specs.Players.{is_by}
use Rattle.zk_cells.specs.Joined.{StandsFor}
use Rattle.zk_cells.proofs.Owners.{own-by}
use Rattle.zk_cells.proofs.emptying.empty_one.Goals as goal

pub returns-clause-mine : goal.returns-clause-mine
returns-clause-mine g c = λ ws stands.
    let pass = c.in-Some.pass in
    let there = subst (λ o. StandsFor (IsLegal g.S.Service.machine) g.S.Service.start ws c.args.cell o) c.in-Some.is stands in
    let own = own-by (pass_players pass) (pass_seen pass) in
    let seen = subst (λ h. All (λ e. is_by (pass_players pass) e ≡ true) h) (c.close.ensures.mine ∙ sym c.close.ensures.history) own in
    subst (λ l. All (λ e. is_by l e ≡ true) (g.S.Service.history c.close.result)) there.players seen
