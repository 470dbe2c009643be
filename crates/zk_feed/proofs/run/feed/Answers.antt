use Rattle.std.proofs.Common.{List, length, sym, ap, subst, ◌∙◌}
use Rattle.zk_base.specs.declared.ids.Who.{Who}
use Rattle.zk_base.specs.Legal.{IsLegal}
use Rattle.zk_msgsub.specs.Fan.{Roster, fan_machine}
use Rattle.zk_feed.proofs.Lines.{output-of}
use Rattle.zk_feed.proofs.Opening.{opened, players-many}
use Rattle.zk_feed.proofs.Opens.{FanEntry, all-rows}
use Rattle.zk_feed.proofs.run.feed.Goals as goal

pub feeders-requires-clause-open : goal.feeders-requires-clause-open
feeders-requires-clause-open g c = opened c.args.size c.in_ok-fan.fan c.in_ok-subs.subs c.in_ok-subs.takers.items
    c.requires.range
    c.in_ok-fan.ensures.start c.in_ok-fan.ensures.players c.in_ok-subs.ensures.many c.in_ok-subs.ensures.subs

pub send_each-requires-clause-open : goal.send_each-requires-clause-open
send_each-requires-clause-open g c κs within = opened c.args.size c.in_ok-fan.fan c.in_ok-subs.subs c.in_ok-subs.takers.items
    c.requires.range
    c.in_ok-fan.ensures.start c.in_ok-fan.ensures.players c.in_ok-subs.ensures.many c.in_ok-subs.ensures.subs

pub gather-requires-clause-open : goal.gather-requires-clause-open
gather-requires-clause-open g c = opened c.args.size c.in_ok-fan.fan c.in_ok-subs.subs c.in_ok-subs.takers.items c.requires.range
    c.in_ok-fan.ensures.start c.in_ok-fan.ensures.players c.in_ok-subs.ensures.many c.in_ok-subs.ensures.subs

pub close-closed-requires-clause-all : goal.close-closed-requires-clause-all
close-closed-requires-clause-all g c =
    c.in_ok-pass.ensures.gathered.players
    ∙ sym (ap (λ (l : List Who). length l) c.in_ok-fan.ensures.players ∙ players-many c.args.size.publishers)

pub hear-requires-clause-rows : goal.hear-requires-clause-rows
hear-requires-clause-rows g c =
    let closed = c.close-closed.ensures in
    let legal = subst (λ (y : Roster × List FanEntry). IsLegal fan_machine y.0 y.1) (λ i. (closed.start i, closed.history i))
    closed.legal in
    all-rows (record { size = c.args.size; fan = c.in_ok-fan.fan; subs = c.in_ok-subs.subs }) c.args.size.publishers
    c.in_ok-pass.pass
    c.in_ok-pass.rows.items
    (opened c.args.size c.in_ok-fan.fan c.in_ok-subs.subs c.in_ok-subs.takers.items c.requires.range
    c.in_ok-fan.ensures.start c.in_ok-fan.ensures.players c.in_ok-subs.ensures.many c.in_ok-subs.ensures.subs)
    c.in_ok-pass.ensures.gathered closed.mine legal

pub returns : goal.returns
returns g c = record {
  output = output-of c.args.size c.in_ok-heard.heard.items c.print.result c.print.ensures
      c.in_ok-heard.ensures.many c.in_ok-heard.ensures.each;
}
