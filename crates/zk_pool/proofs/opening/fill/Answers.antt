use Rattle.std.proofs.Common.{◌≡◌, ◌<◌, ◌++◌, ◌∷◌, [], ◌∙◌, reverse, vec_capacity, refl, sym, ap, arith}
use Rattle.crossbeam_queue.specs.Passes.{view, ruled_capacity}
use Rattle.zk_pool.specs.Hands.{home_in}
use Rattle.zk_pool.specs.Rule.{Suits}
use Rattle.zk_pool.proofs.Filling.{fills, whole-next, whole-push, home-next, undealt-next}
use Rattle.zk_pool.proofs.Gathering.{All-last, stays-pass}
use Rattle.zk_pool.proofs.opening.fill.Goals as goal

pub try_push_as-requires-clause-rule : goal.try_push_as-requires-clause-rule
try_push_as-requires-clause-rule g c =
    let number = g.T.Numbered.number in
    let home = g.T.Numbered.home in
    let kept = g.T.Numbered.kept in
    let all = reverse c.args.items.now.items in
    let rest = c.pop.new.self.items in
    let item = c.in-Some.item in
    let inv = c.loop-item.invariant in
    let is = c.in-Some.ensures.items in
    let whole = whole-next inv.3.0 c.loop-item.items.items rest all item is inv.3.1 in
    let suits = (All-last (Suits number home kept (home_in home all)) c.loop-item.items.items rest item is inv.2).1 in
    let pass = c.loop-item.pass in
    let v = view pass in
    let hands = ap (λ u. u.hands) inv.3.2 in
    let made = ap (λ u. u.made) inv.3.2 in
    let house = home-next number home inv.3.0 (reverse rest) all item v.home (ap (λ u. u.home) inv.3.2) whole suits.0 in
    let some_hand : 0 < v.hands = omega arith in
    fills number home kept (ruled_capacity c.args.queue.now) pass.id v item some_hand (hands ∙ sym made) house suits.1

pub loop-item-preserved : goal.loop-item-preserved
loop-item-preserved g c =
    let number = g.T.Numbered.number in
    let home = g.T.Numbered.home in
    let kept = g.T.Numbered.kept in
    let all = reverse c.args.items.now.items in
    let rest = c.pop.new.self.items in
    let item = c.in-Some.item in
    let inv = c.loop-item.invariant in
    let done = inv.3.0 in
    let is = c.in-Some.ensures.items in
    let whole = whole-next done c.loop-item.items.items rest all item is inv.3.1 in
    let each = All-last (Suits number home kept (home_in home all)) c.loop-item.items.items rest item is inv.2 in
    let house = home-next number home done (reverse rest) all item (home_in home done) refl whole each.1.0 in
    let room : vec_capacity c.pop.new.self ≡ vec_capacity c.loop-item.items = c.pop.ensures.capacity in (
      stays-pass c.args.queue.now c.loop-item.pass c.try_push_as.new.pass inv.0 c.in-Ok.ensures.queue,
      room ∙ inv.1,
      each.0,
      (
        done ++ item ∷ [],
        whole-push done (reverse rest) all item whole,
        undealt-next number home done item (view c.loop-item.pass) (view c.try_push_as.new.pass) inv.3.2 c.in-Ok.ensures.rule house,
      ),
    )
