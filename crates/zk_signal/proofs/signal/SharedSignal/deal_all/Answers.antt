use Rattle.std.proofs.Common.{ℕ, ◌+◌, [], ◌∷◌, ◌++◌, length, List, take, drop, get_or, sym, ap, subst, ◌∙◌, arith}
use Rattle.std.proofs.lemmas.List.{drop_more, take_more}
use Rattle.zk_signal.specs.Passes.{AreNewPasses}
use Rattle.zk_signal.specs.Views.{opened}
use Rattle.zk_signal.proofs.Passes.{AreNewPasses-push}
use Rattle.zk_signal.proofs.signal.SharedSignal.deal_all.Goals as goal

pub deal-pass-requires-clause-first : goal.deal-pass-requires-clause-first
deal-pass-requires-clause-first c =
    let is = drop_more c.args.players.now c.loop-index.index 0 c.loop-index-test.true in
    (drop (c.loop-index.index + 1) c.args.players.now, c.loop-index.invariant.1 ∙ ap (λ (ps : List ℕ). (opened ps, [])) is)

pub push_within-requires : goal.push_within-requires
push_within-requires c =
    let long = ap (λ (ps : List ℕ). length ps) (drop_more c.args.players.now c.loop-index.index 0 c.loop-index-test.true) in
    let room = c.loop-index.invariant.3 in omega arith

pub loop-index-preserved : goal.loop-index-preserved
loop-index-preserved c =
    let players = c.args.players.now in
    let index = c.loop-index.index in
    let is = drop_more players index 0 c.loop-index-test.true in
    let taken = take_more players index 0 c.loop-index-test.true in
    let inv = c.loop-index.invariant in
    let signal = c.args.self.now in
    let at_first = inv.1 ∙ ap (λ (ps : List ℕ). (opened ps, [])) is in
    let passes = AreNewPasses-push signal (take index players) c.loop-index.passes.items (get_or players index 0)
    c.deal-pass.result inv.2 c.deal-pass.ensures.pass in
    let long = ap (λ (ps : List ℕ). length ps) is in
    let room = inv.3 in
    let added = c.push_within.ensures.len in
    let kept = c.push_within.ensures.capacity in (
      c.deal-pass.ensures.table ∙ inv.0,
      c.deal-pass.ensures.others (drop (index + 1) players) at_first,
      subst (λ ps. AreNewPasses signal (take (index + 1) players) ps) (sym c.push_within.ensures.items)
          (subst (λ (ps : List ℕ). AreNewPasses signal ps (c.loop-index.passes.items ++ c.deal-pass.result ∷ [])) (sym taken) passes),
      omega arith,
    )
