use Rattle.std.proofs.Common.{List, length, sym, ap, subst, ◌∙◌, arith}
use Rattle.zk_base.specs.declared.ids.Who.{Who}
use Rattle.zk_turn.specs.Players.{Differ}
use Rattle.zk_msgsub.specs.Fan.{are_subscribers}
use Rattle.zk_msgsub.proofs.Callers.{subscribers-upto}
use Rattle.zk_feed.proofs.Opening.{players-differ, players-many}
use Rattle.zk_feed.proofs.fan.fan_of.Goals as goal

pub new-fan-requires : goal.new-fan-requires
new-fan-requires c =
    let most = c.requires.most_subscribers in
    ap are_subscribers c.all_subscribers.ensures ∙ subscribers-upto c.args.size.subscribers (omega arith)

pub new-requires-clause-few : goal.new-requires-clause-few
new-requires-clause-few c =
    let same = ap (λ (l : List Who). length l) (c.deref.ensures.value ∙ c.in_ok-players.ensures) in
    let many = players-many c.args.size.publishers in
    let most = c.requires.most_publishers in
    omega arith

pub new-requires-clause-differ : goal.new-requires-clause-differ
new-requires-clause-differ c =
    subst Differ (sym (c.deref.ensures.value ∙ c.in_ok-players.ensures)) (players-differ c.args.size.publishers)
