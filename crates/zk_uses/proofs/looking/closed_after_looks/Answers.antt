use Rattle.std.proofs.Common.{All, sym, subst, ◌∙◌}
use Rattle.zk_base.specs.Legal.{IsLegal}
use Rattle.zk_turn.specs.Passes.{pass_seen}
use Rattle.zk_uses.specs.Looks.{IsLookAt}
use Rattle.zk_uses.proofs.Looks.{looks-go_on}
use Rattle.zk_uses.proofs.looking.closed_after_looks.Goals as goal

pub returns-clause-legal : goal.returns-clause-legal
returns-clause-legal g c =
    let m = g.S.Service.machine in
    let start = g.S.Service.start in
    subst (λ s. IsLegal m s c.into_history.result.items) c.close.ensures.start
    (subst (λ h. IsLegal m (start c.close.result) h) (sym c.into_history.ensures.history) c.close.ensures.legal)

pub returns-clause-first : goal.returns-clause-first
returns-clause-first g c =
    let m = g.S.Service.machine in
    let start = g.S.Service.start in
    let word = g.S.Service.word in
    let cell = c.args.cell in
    let index = c.args.index in
    let looker = c.args.lookers.0 in
    let looks = looker.looks.items in
    let joined = pass_seen c.join.new.into in
    let whole = pass_seen c.join-2.new.into in
    subst (λ h. All (IsLookAt m start word cell index h) looks) (sym (c.into_history.ensures.history ∙ c.close.ensures.history))
    (looks-go_on m start word cell index joined whole looks c.join-2.ensures.first
    (looks-go_on m start word cell index (pass_seen looker.pass) joined looks c.join.ensures.first c.requires.first.looks))

pub returns-clause-second : goal.returns-clause-second
returns-clause-second g c =
    let m = g.S.Service.machine in
    let start = g.S.Service.start in
    let word = g.S.Service.word in
    let cell = c.args.cell in
    let index = c.args.index in
    let looker = c.args.lookers.1 in
    let looks = looker.looks.items in
    let joined = pass_seen c.join.new.into in
    let whole = pass_seen c.join-2.new.into in
    subst (λ h. All (IsLookAt m start word cell index h) looks) (sym (c.into_history.ensures.history ∙ c.close.ensures.history))
    (looks-go_on m start word cell index joined whole looks c.join-2.ensures.first
    (looks-go_on m start word cell index (pass_seen looker.pass) joined looks c.join.ensures.second c.requires.second.looks))
