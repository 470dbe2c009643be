use Rattle.std.proofs.Common.{◌<◌, [], ◌∷◌, ◌++◌, ap, arith, rules, length, reverse, vec_capacity}
use Rattle.zk_scenario.specs.Content.{Content}
use Rattle.zk_worker.specs.Checks.{mode_after}
use Rattle.zk_worker.specs.Places.{PlayerPlace}
use Rattle.zk_worker.specs.Protocol.{frames_progress, frames_after, answers_after, spot_of}
use Rattle.zk_worker.proofs.Starts.{At-same}
use Rattle.zk_worker.proofs.Limits.{IsRoomy-moved}
use Rattle.zk_worker.proofs.player.Player.go_on.Goals as goal

pub invariant_of-self : goal.invariant_of-self
invariant_of-self c =
    let was = c.self.inside in
    let spots = ap (λ v. length v.spots) c.self.view_is in
    let most = ap (λ v. v.most) c.self.view_is in
    let fewer : length was.spots.items < was.most = omega (arith, spots, most, c.requires) in
    let s : Content = c.args.scenario.now in
    IsRoomy-moved s (reverse was.stack.items) (reverse c.stack_goes_on.new.stack.items) was.answers.items c.stack_goes_on.new.answers.items
    was.spots.items c.push_within.new.items.items c.spot_of.result c.len-number.result
    (frames_progress s (reverse was.stack.items) c.args.step.now c.args.reply.now) was.most was.passed
    (vec_capacity was.stack) was.answers.room (vec_capacity was.spots)
    (vec_capacity c.stack_goes_on.new.stack) c.stack_goes_on.new.answers.room (vec_capacity c.push_within.new.items)
    c.self.invariant fewer c.stack_goes_on.ensures.frames c.stack_goes_on.ensures.answers c.push_within.ensures.items
    c.stack_goes_on.ensures.frame_room c.stack_goes_on.ensures.answer_room c.push_within.ensures.capacity

pub returns : goal.returns
returns c =
    let s : Content = c.args.scenario.now in
    let at : PlayerPlace = c.args.self.now in
    let progress = frames_progress s at.frames c.args.step.now c.args.reply.now in
    let spot = spot_of c.args.step.now c.args.reply.now in
    At-same c.self.inside.who at.who c.self.inside.most at.most c.mode_after-self-inside.result (mode_after at.mode c.args.step.now) 0
    (reverse c.stack_goes_on.new.stack.items) (frames_after s at.frames progress) c.stack_goes_on.new.answers.items (answers_after at.answers (length at.spots) progress)
    c.push_within.new.items.items (at.spots ++ spot ∷ [])
    (search rules) (search rules) (search rules) (search rules) (search rules) (search rules)
