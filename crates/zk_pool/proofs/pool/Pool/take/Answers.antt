use Rattle.std.proofs.Common.{◌<◌, ◌∙◌, length, sym, ap, arith}
use Rattle.crossbeam_queue.specs.Passes.{view}
use Rattle.zk_pool.specs.Counts.{tally}
use Rattle.zk_pool.proofs.Dealing.{finds_nothing}
use Rattle.zk_pool.proofs.Learning.{holds-all, rest_is_there}
use Rattle.zk_pool.proofs.Moving.{takes}
use Rattle.zk_pool.proofs.pool.Pool.take.Goals as goal

pub pop_as-requires-clause-rule : goal.pop_as-requires-clause-rule
pop_as-requires-clause-rule g c =
    let number = g.T.Numbered.number in
    let home = g.T.Numbered.home in
    let kept = g.T.Numbered.kept in
    let pass = c.args.hand.now.pass in
    let v = view pass in
    let one = c.requires.own.stands.hands in
    let some_hand : 0 < v.hands = omega arith in
    (takes number home kept pass.id v some_hand, rest_is_there number home kept pass.id v some_hand)

pub another-requires-clause-rule : goal.another-requires-clause-rule
another-requires-clause-rule g c =
    finds_nothing g.T.Numbered.number g.T.Numbered.home g.T.Numbered.kept _ _

pub returns-in-Some-clause-once : goal.returns-in-Some-clause-once
returns-in-Some-clause-once g c n =
    let most = c.in-Some.ensures.rule.once n in
    let same = ap (tally n) c.requires.own.stands.numbers in
    omega arith

pub returns-in-None-clause-none : goal.returns-in-None-clause-none
returns-in-None-clause-none g c one =
    let number = g.T.Numbered.number in
    let v = view c.args.hand.now.pass in
    let stands = c.requires.own.stands in
    let found = c.in-None.ensures.rule.1 in
    let all = found.2 (stands.hands ∙ sym one ∙ sym stands.made) in
    record {
      once = λ n. holds-all number v found.0 all found.1 n ∙ ap (tally n) stands.numbers;
      count =
          let none = found.1 in
          let count = all.count in
          let same = ap (λ l. length l) stands.numbers in
          omega arith;
    }
