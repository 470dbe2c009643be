use Rattle.std.proofs.Common.{◌<◌, ◌∙◌, sym, arith}
use Rattle.crossbeam_queue.specs.Passes.{view, ruled_capacity}
use Rattle.zk_pool.specs.Rule.{Suits}
use Rattle.zk_pool.proofs.Learning.{room_is_there}
use Rattle.zk_pool.proofs.Moving.{gives}
use Rattle.zk_pool.proofs.pool.Pool.give.Goals as goal

pub push_as-requires-clause-rule : goal.push_as-requires-clause-rule
push_as-requires-clause-rule g c =
    let number = g.T.Numbered.number in
    let home = g.T.Numbered.home in
    let kept = g.T.Numbered.kept in
    let pass = c.args.hand.now.pass in
    let v = view pass in
    let stands = c.requires.own.stands in
    let one = stands.hands in
    let some_hand : 0 < v.hands = omega arith in
    let suits : Suits number home kept v.home c.args.item = (c.requires.suits.0 ∙ sym stands.house, c.requires.suits.1) in (
      gives number home kept (ruled_capacity c.args.self.now.queue) pass.id v c.args.item some_hand c.requires.held suits,
      room_is_there number home kept pass.id v some_hand,
    )
