use Rattle.std.proofs.Common.{◌≡◌, ◌<◌, ◌∙◌, length, sym, ap, arith}
use Rattle.crossbeam_queue.specs.Passes.{view}
use Rattle.std.proofs.lemmas.List.{length-map}
use Rattle.zk_pool.specs.Counts.{tally}
use Rattle.zk_pool.proofs.Learning.{holds-all, rest_is_there}
use Rattle.zk_pool.proofs.Moving.{takes}
use Rattle.zk_pool.proofs.close.drain.Goals as goal

pub pop_as-requires-clause-rule : goal.pop_as-requires-clause-rule
pop_as-requires-clause-rule g c =
    let number = g.T.Numbered.number in
    let home = g.T.Numbered.home in
    let kept = g.T.Numbered.kept in
    let pass = c.loop.pass in
    let v = view pass in
    let same = ap (λ u. u.hands) c.loop.invariant.1 in
    let some = c.requires.some in
    let some_hand : 0 < v.hands = omega arith in
    (takes number home kept pass.id v some_hand, rest_is_there number home kept pass.id v some_hand)

pub learn_as-requires-clause-rule : goal.learn_as-requires-clause-rule
learn_as-requires-clause-rule g c =
    let pass = c.loop.pass in
    let v = view pass in
    let same = ap (λ u. u.hands) c.loop.invariant.1 in
    let some = c.requires.some in
    let some_hand : 0 < v.hands = omega arith in
    rest_is_there g.T.Numbered.number g.T.Numbered.home g.T.Numbered.kept pass.id v some_hand

pub returns-clause-once : goal.returns-clause-once
returns-clause-once g c n =
    let number = g.T.Numbered.number in
    let v = view c.loop.pass in
    let now = c.loop.invariant.1 in
    let learnt = c.learn_as.ensures.rule in
    let whole = learnt.1 (ap (λ u. u.hands) now ∙ c.requires.all ∙ sym (ap (λ u. u.made) now)) in
    let count = whole.count in
    let held = ap (λ u. length u.held) now ∙ length-map c.loop.room.items number in
    let numbers = ap (λ u. length u.numbers) now in
    let fits = c.requires.fits in
    let taken = c.loop.invariant.2 in
    let all : tally n v.held ≡ tally n v.numbers = holds-all number v learnt.0 whole (omega arith) n in
    sym (ap (λ u. tally n u.held) now) ∙ all ∙ ap (λ u. tally n u.numbers) now
