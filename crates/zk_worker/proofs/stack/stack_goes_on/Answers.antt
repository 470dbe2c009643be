use Rattle.std.proofs.Common.{◌+◌, ◌-◌, ◌∙◌, ap, vec_len, arith, List}
use Rattle.zk_worker.specs.declared.frames.Frame.{Frame}
use Rattle.zk_worker.specs.Protocol.{settled, entered}
use Rattle.zk_worker.proofs.Lists.{last-written}
use Rattle.zk_worker.proofs.Moving.{stack-answers, stack-goes, stack-answered, stack-enters}
use Rattle.zk_worker.proofs.stack.stack_goes_on.Goals as goal

pub returns-in-Goes-clause-frames : goal.returns-in-Goes-clause-frames
returns-in-Goes-clause-frames c =
    let frame = c.in-Some.frame.now in
    let frame' = c.frame_goes_on.new.frame in
    let top = last-written c.args.stack.now.items (vec_len c.args.stack.now - 1) frame frame' (grind (arith, c.in-Some.is, c.in-Some.ensures.variant)) c.in-Some.ensures.value in
    top.2 ∙ stack-goes c.args.scenario.now _ frame frame' top.0 _ _ _ _ _ _ top.1 c.frame_goes_on.ensures.done c.frame_goes_on.ensures.kept c.in-Goes.is

pub returns-in-Goes-clause-answers : goal.returns-in-Goes-clause-answers
returns-in-Goes-clause-answers c =
    let frame = c.in-Some.frame.now in
    let frame' = c.frame_goes_on.new.frame in
    let top = last-written c.args.stack.now.items (vec_len c.args.stack.now - 1) frame frame' (grind (arith, c.in-Some.is, c.in-Some.ensures.variant)) c.in-Some.ensures.value in
    stack-answers c.args.scenario.now _ frame frame' top.0 _ _ _ _ _ _ top.1 c.frame_goes_on.ensures.done

pub returns-in-Answers-clause-frames : goal.returns-in-Answers-clause-frames
returns-in-Answers-clause-frames c =
    let frame = c.in-Some.frame.now in
    let frame' = c.frame_goes_on.new.frame in
    let next = record frame' { next = frame'.next + 1 } in
    let top = last-written c.args.stack.now.items (vec_len c.args.stack.now - 1) frame next (grind (arith, c.in-Some.is, c.in-Some.ensures.variant)) c.in-Some.ensures.value in
    c.settle.ensures.frames ∙ ap (settled c.args.scenario.now) top.2
    ∙ stack-answered c.args.scenario.now _ frame frame' top.0 _ _ _ _ _ _ top.1 c.frame_goes_on.ensures.done c.frame_goes_on.ensures.kept c.in-Answers.is

pub returns-in-Answers-clause-answers : goal.returns-in-Answers-clause-answers
returns-in-Answers-clause-answers c =
    let frame = c.in-Some.frame.now in
    let frame' = c.frame_goes_on.new.frame in
    let top = last-written c.args.stack.now.items (vec_len c.args.stack.now - 1) frame frame' (grind (arith, c.in-Some.is, c.in-Some.ensures.variant)) c.in-Some.ensures.value in
    stack-answers c.args.scenario.now _ frame frame' top.0 _ _ _ _ _ _ top.1 c.frame_goes_on.ensures.done

pub returns-in-Enters-clause-frames : goal.returns-in-Enters-clause-frames
returns-in-Enters-clause-frames c =
    let frame = c.in-Some.frame.now in
    let frame' = c.frame_goes_on.new.frame in
    let top = last-written c.args.stack.now.items (vec_len c.args.stack.now - 1) frame frame' (grind (arith, c.in-Some.is, c.in-Some.ensures.variant)) c.in-Some.ensures.value in
    c.settle-in-Enters.ensures.frames ∙ ap (settled c.args.scenario.now) (c.enter.ensures.frames ∙ ap (λ (fs : List Frame). entered fs c.in-Enters.owner) top.2)
    ∙ stack-enters c.args.scenario.now _ frame frame' top.0 _ _ _ _ _ _ c.in-Enters.owner top.1 c.frame_goes_on.ensures.done c.frame_goes_on.ensures.kept c.in-Enters.is

pub returns-in-Enters-clause-answers : goal.returns-in-Enters-clause-answers
returns-in-Enters-clause-answers c =
    let frame = c.in-Some.frame.now in
    let frame' = c.frame_goes_on.new.frame in
    let top = last-written c.args.stack.now.items (vec_len c.args.stack.now - 1) frame frame' (grind (arith, c.in-Some.is, c.in-Some.ensures.variant)) c.in-Some.ensures.value in
    stack-answers c.args.scenario.now _ frame frame' top.0 _ _ _ _ _ _ top.1 c.frame_goes_on.ensures.done
