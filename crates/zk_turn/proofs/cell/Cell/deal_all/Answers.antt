use Rattle.std.proofs.Common.{◌+◌, [], ◌∷◌, ◌++◌, length, List, take, drop, get_or, sym, ap, subst, ◌∙◌, arith}
use Rattle.std.specs.Prelude.{pos}
use Rattle.std.proofs.lemmas.List.{drop_more, take_more}
use Rattle.zk_base.specs.declared.ids.Who.{Who}
use Rattle.zk_base.specs.Legal.{IsLegal}
use Rattle.zk_turn.specs.Players.{Differ}
use Rattle.zk_turn.specs.Views.{opened}
use Rattle.zk_turn.specs.Passes.{AreNewPasses, given_to}
use Rattle.zk_turn.proofs.Dealing.{AreNewPasses-push}
use Rattle.zk_turn.proofs.cell.Cell.deal_all.Goals as goal

pub deal-pass-requires-clause-first : goal.deal-pass-requires-clause-first
deal-pass-requires-clause-first g c =
    let none : Who = record { number = 0; prio = pos 0 } in
    let is = drop_more c.args.players.now c.loop-index.index none c.loop-index-test.true in
    let inv = c.loop-index.invariant in (
      drop (c.loop-index.index + 1) c.args.players.now,
      inv.1 ∙ ap (λ (ws : List Who). (opened (g.S.Service.start (given_to c.args.self.now)) g.S.Service.WORDS ws, [])) is,
      subst Differ is inv.2,
    )

pub push_within-requires : goal.push_within-requires
push_within-requires g c =
    let none : Who = record { number = 0; prio = pos 0 } in
    let long = ap (λ (ws : List Who). length ws) (drop_more c.args.players.now c.loop-index.index none c.loop-index-test.true) in
    let room = c.loop-index.invariant.4 in omega arith

pub loop-index-preserved : goal.loop-index-preserved
loop-index-preserved g c =
    let none : Who = record { number = 0; prio = pos 0 } in
    let players = c.args.players.now in
    let index = c.loop-index.index in
    let is = drop_more players index none c.loop-index-test.true in
    let taken = take_more players index none c.loop-index-test.true in
    let inv = c.loop-index.invariant in
    let legal = IsLegal g.S.Service.machine in
    let start = g.S.Service.start in
    let cell = c.args.self.now in
    let at_first = inv.1 ∙ ap (λ (ws : List Who). (opened (start (given_to cell)) g.S.Service.WORDS ws, [])) is in
    let differ = subst Differ is inv.2 in
    let passes = AreNewPasses-push legal start cell (take index players) c.loop-index.passes.items
    (get_or players index none) c.deal-pass.result inv.3 c.deal-pass.ensures.pass in
    let long = ap (λ (ws : List Who). length ws) is in
    let room = inv.4 in
    let added = c.push_within.ensures.len in
    let kept = c.push_within.ensures.capacity in (
      c.deal-pass.ensures.table ∙ inv.0,
      c.deal-pass.ensures.others (drop (index + 1) players) at_first,
      differ.1,
      subst (λ ps. AreNewPasses legal start cell (take (index + 1) players) ps) (sym c.push_within.ensures.items)
          (subst (λ (ws : List Who). AreNewPasses legal start cell ws
          (c.loop-index.passes.items ++ c.deal-pass.result ∷ [])) (sym taken) passes),
      omega arith,
    )
